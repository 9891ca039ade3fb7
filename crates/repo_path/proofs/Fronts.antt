-- The first element of a text, and what is left after it.
use Rattle.std.proofs.Common.{◌≡◌, ℕ, suc, ◌+◌, ◌<◌, ◌≤◌, Bool, true, false, cond, List, [], ◌∷◌, length, take, drop, Some, None, refl, sym, ap, subst, ◌∙◌, arith}
use Rattle.std.specs.Prelude.{◌==◌, not, nat_lt, position}
use Rattle.std.specs.List.{onto_first, position_or_len}
use Rattle.std.proofs.lemmas.Bool.{ltb-true, ltb-false}
use Rattle.std.proofs.lemmas.Option.{cond_some}
use Rattle.changeset_model.specs.Path.{elements}
use Rattle.repo_path.proofs.Elements.{elements_by}

-- where the first element ends
abbrev pub first_len : List ℕ → ℕ
first_len text = position_or_len (λ b. b == 0x2F) text

suc_is : (n : ℕ) → suc n ≡ n + 1
suc_is n = omega arith

one_more : (n : ℕ) → 1 + n ≡ suc n
one_more n = omega arith

-- where the first element ends in a text with one more byte before it, if it is known whether that is a slash
abbrev len_by : Bool → List ℕ → ℕ
len_by t text = cond (not t) (1 + first_len text) 0

first_and_rest : (text : List ℕ) → first_len text < length text → elements text ≡ take (first_len text) text ∷ elements (drop (suc (first_len text)) text)
first_and_rest [] h = absurd (omega arith)
first_and_rest (b ∷ text) h = by (first_and_rest text) (b == 0x2F) h
  where
    by : (first_len text < length text → elements text ≡ take (first_len text) text ∷ elements (drop (suc (first_len text)) text)) → (t : Bool) → len_by t text < length (b ∷ text) → elements_by t b text ≡ take (len_by t text) (b ∷ text) ∷ elements (drop (suc (len_by t text)) (b ∷ text))
    by ih true h = refl
    by ih false h = ap (onto_first b) (ih (omega arith)) ∙ (λ i. take (sym (one_more (first_len text)) i) (b ∷ text) ∷ elements (drop (suc (sym (one_more (first_len text)) i)) (b ∷ text)))

only_one : (text : List ℕ) → length text ≤ first_len text → elements text ≡ text ∷ []
only_one [] h = refl
only_one (b ∷ text) h = by (only_one text) (b == 0x2F) h
  where
    by : (length text ≤ first_len text → elements text ≡ text ∷ []) → (t : Bool) → length (b ∷ text) ≤ len_by t text → elements_by t b text ≡ (b ∷ text) ∷ []
    by ih true h = absurd (omega arith)
    by ih false h = ap (onto_first b) (ih (omega arith))

none_false : {A : Type 0} (b : Bool) (x : A) → cond b (Some x) None ≡ None → b ≡ false
none_false true x e = absurd (cc)
none_false false x e = refl

-- a slash at n parts the first element from the others
pub elements-first : (text : List ℕ) (n : ℕ) → position (λ b. b == 0x2F) text ≡ Some n → elements text ≡ take n text ∷ elements (drop (n + 1) text)
elements-first text n e =
    let at = cond_some (nat_lt (first_len text) (length text)) (first_len text) n e in
    subst (λ n. elements text ≡ take n text ∷ elements (drop (n + 1) text)) at.1
    (first_and_rest text (ltb-true (first_len text) (length text) at.0) ∙ ap (λ k. take (first_len text) text ∷ elements (drop k text)) (suc_is (first_len text)))

-- with no slash there is one element
pub elements-only : (text : List ℕ) → position (λ b. b == 0x2F) text ≡ None → elements text ≡ text ∷ []
elements-only text e = only_one text (ltb-false (first_len text) (length text) (none_false (nat_lt (first_len text) (length text)) (first_len text) e))
