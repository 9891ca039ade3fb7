-- Parts as one, one part after the other.
--     written      the bytes of one part more
--     AreSoFar ps at bytes left      the parts up to a place are the bytes before what is left
--     other_len, other_part, same_part, all_same      a part that is longer than what is left, that isn't what stands there, that is, and the end
use Rattle.std.proofs.Common.{◌≡◌, ◌↔◌, ℕ, suc, ◌+◌, ◌<◌, List, [], ◌∷◌, ◌++◌, length, take, drop, get_or, refl, sym, ap, ◌∙◌, append_assoc, arith, Bool, true, false, not}
use Rattle.std.specs.Prelude.{IsTrue, ◌==◌, bytes_eq}
use mathlib.Core.Bool.{true≢false}
use Rattle.std.proofs.lemmas.Bool.{eqb-true, eq-eqb}
use Rattle.std.proofs.lemmas.Slice.Eq.{bytes_eq-Decides}
use Rattle.std.proofs.lemmas.List.{take-append-drop, append-nil, append_cancel_left, length-append, take_more}
use Rattle.std.proofs.Math.Seq.{drop-cons, drop-length, take-append_seam}
use Rattle.node_parts.specs.Parts.{joined}
use Rattle.node_parts.proofs.Runs.{Bytes, joined_append}

pub written : (ps : List Bytes) (at : ℕ) (p out now bytes after : Bytes) → at < length ps → p ≡ get_or ps at p → now ≡ out ++ joined (take at ps) → bytes ≡ p → after ≡ now ++ bytes → after ≡ out ++ joined (take (at + 1) ps)
written ps at p out now bytes after less is had same grown =
    grown ∙ ap (λ b. now ++ b) same ∙ ap (λ t. t ++ p) had ∙ append_assoc out (joined (take at ps)) p
    ∙ ap (λ t. out ++ (joined (take at ps) ++ t)) (sym (append-nil p))
    ∙ ap (λ t. out ++ t) (sym (joined_append (take at ps) (p ∷ [])))
    ∙ ap (λ qs. out ++ joined qs) (sym more)
  where
    more : take (at + 1) ps ≡ take at ps ++ p ∷ []
    more = take_more ps at p less ∙ ap (λ q. take at ps ++ q ∷ []) (sym is)

-- ---- compared with bytes

abbrev pub AreSoFar : List Bytes → ℕ → Bytes → Bytes → Type 0
AreSoFar ps at bytes left = (joined ps ≡ bytes) ↔ (joined (drop at ps) ≡ left)

module _ (ps : List Bytes) (at : ℕ) (p : Bytes) (less : at < length ps) (is : p ≡ get_or ps at p) where
  here : joined (drop at ps) ≡ p ++ joined (drop (suc at) ps)
  here = ap joined (drop-cons ps at p less) ∙ ap (λ q. q ++ joined (drop (suc at) ps)) (sym is)

  module _ (bytes left : Bytes) (so : AreSoFar ps at bytes left) where
    begins : joined ps ≡ bytes → left ≡ p ++ joined (drop (suc at) ps)
    begins same = sym (so.0 same) ∙ here

    pub other_len : length left < length p → joined ps ≡ bytes → ⊥
    other_len short same =
        let whole = ap length (begins same) in
        let both = length-append p (joined (drop (suc at) ps)) in
        omega arith

    pub other_part : (front : Bytes) → front ≡ take (length p) left → (front ≡ p → ⊥) → joined ps ≡ bytes → ⊥
    other_part front cut not same = not (cut ∙ ap (take (length p)) (begins same) ∙ take-append_seam p (joined (drop (suc at) ps)))

    pub same_part : (front rest : Bytes) → left ≡ front ++ rest → front ≡ p → AreSoFar ps (at + 1) bytes rest
    same_part front rest cut same = (
      λ e. ap (λ k. joined (drop k ps)) (next) ∙ append_cancel_left p (joined (drop (suc at) ps)) rest (sym (begins e) ∙ cut ∙ ap (λ f. f ++ rest) same),
      λ e. so.1 (here ∙ ap (λ t. p ++ t) (ap (λ k. joined (drop k ps)) (sym next) ∙ e) ∙ ap (λ f. f ++ rest) (sym same) ∙ sym cut),
    )
      where
        next : at + 1 ≡ suc at
        next = omega arith

pub all_same : (ps : List Bytes) (bytes left : Bytes) → AreSoFar ps (length ps) bytes left → (joined ps ≡ bytes) ↔ ([] ≡ left)
all_same ps bytes left so = (λ e. sym none ∙ so.0 e, λ e. so.1 (none ∙ e))
  where
    none : joined (drop (length ps) ps) ≡ []
    none = ap joined (drop-length ps)

-- ---- answers of comparisons

pub differs : (a b : Bytes) (t : Bool) → t ≡ not (bytes_eq a b) → t ≡ true → a ≡ b → ⊥
differs a b t is so same = true≢false (sym so ∙ is ∙ ap not ((bytes_eq-Decides a b).1 same))

pub agrees : (a b : Bytes) (t : Bool) → t ≡ not (bytes_eq a b) → t ≡ false → a ≡ b
agrees a b t is so = by (bytes_eq a b) refl (sym is ∙ so)
  where
    by : (u : Bool) → bytes_eq a b ≡ u → not u ≡ false → a ≡ b
    by true e h = (bytes_eq-Decides a b).0 e
    by false e h = absurd (true≢false h)

none_of : (left : Bytes) → length left ≡ 0 → [] ≡ left
none_of [] h = refl
none_of (b ∷ left) h = absurd (omega arith)

pub is_none : (left : Bytes) (t : Bool) → t ≡ (length left == 0) → IsTrue t ↔ ([] ≡ left)
is_none left t is = (λ so. none_of left (eqb-true (length left) 0 (sym is ∙ so)), λ e. is ∙ eq-eqb (length left) 0 (sym (ap length e)))

pub cut_is : (left front rest : Bytes) (n : ℕ) → front ≡ take n left → rest ≡ drop n left → left ≡ front ++ rest
cut_is left front rest n one two = sym (take-append-drop n left) ∙ ap (λ f. f ++ drop n left) (sym one) ∙ ap (λ t. front ++ t) (sym two)
