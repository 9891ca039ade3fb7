-- The payload in a framed record.
--     inside frame      what stands behind the length and before the gate
use Rattle.std.proofs.Common.{◌≡◌, ℕ, ◌+◌, ◌-◌, Bool, true, List, [], ◌∷◌, ◌++◌, length, take, drop, refl, sym, ap, ◌∙◌, arith, length-append}
use Rattle.std.specs.Prelude.{Option, None, Some, IsSome, IsTrue, is_some, option_map, unwrap_or, bytes_eq}
use Rattle.std.proofs.lemmas.Slice.Eq.{bytes_eq-Decides}
use Rattle.std.proofs.Math.Seq.{take-append_seam}
use Rattle.history_model.specs.History.{Body}
use Rattle.history_model.specs.Journal.{framed}

abbrev pub inside : List ℕ → List ℕ
inside frame = take (length frame - 5) (drop 4 frame)

pub length-framed : (bytes : List ℕ) → length (framed bytes) ≡ 5 + length bytes
length-framed bytes = let len = length-append bytes (0 ∷ []) in omega arith

pub inside-framed : (bytes : List ℕ) → inside (framed bytes) ≡ bytes
inside-framed bytes =
    let len : length (framed bytes) - 5 ≡ length bytes = (let long = length-framed bytes in omega arith) in
    ap (λ n. take n (bytes ++ 0 ∷ [])) len ∙ take-append_seam bytes (0 ∷ [])

pub framed_once : (a b : List ℕ) → framed a ≡ framed b → a ≡ b
framed_once a b e = sym (inside-framed a) ∙ ap inside e ∙ inside-framed b

-- ---- what a judged change makes

shown : (made : Option Body) (whole frame : List ℕ) → Some frame ≡ option_map (λ body. whole) made → IsSome made × (whole ≡ frame)
shown None whole frame e = absurd cc
shown (Some body) whole frame e = (refl, ap (λ o. unwrap_or o frame) (sym e))

pub makes_exactly : (made : Option Body) (whole frame inner payload : List ℕ) (same : Bool) → Some frame ≡ option_map (λ body. whole) made → frame ≡ framed inner → same ≡ bytes_eq inner payload → (IsTrue same → IsSome made × (whole ≡ framed payload)) × (IsSome made × (whole ≡ framed payload) → IsTrue same)
makes_exactly made whole frame inner payload same e is test =
    let there = shown made whole frame e in (
      λ t. (there.0, there.1 ∙ is ∙ ap framed ((bytes_eq-Decides inner payload).0 (sym test ∙ t))),
      λ p. test ∙ (bytes_eq-Decides inner payload).1 (framed_once inner payload (sym is ∙ sym there.1 ∙ p.1)),
    )

pub is_made : {X Y Z : Type 0} (f : X → Z) (g : Y → Z) (o : Option X) (p : Option Y) → option_map f o ≡ option_map g p → is_some o ≡ true → is_some p ≡ true
is_made f g None p e some = absurd cc
is_made f g (Some x) None e some = absurd cc
is_made f g (Some x) (Some y) e some = refl
