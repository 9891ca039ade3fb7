-- A text and its elements.
use Rattle.std.proofs.Common.{◌≡◌, ℕ, ◌<◌, Bool, cond, List, [], ◌∷◌, length, refl, arith}
use Rattle.std.specs.List.{onto_first}
use Rattle.changeset_model.specs.Path.{Path, elements, text_of}

-- the elements of a text with one more byte before it, if it is known whether that is a slash
abbrev pub elements_by : Bool → ℕ → List ℕ → Path
elements_by t b text = cond t ([] ∷ elements text) (onto_first b (elements text))

on_first : (b : ℕ) (e : List ℕ) (p : Path) → text_of (onto_first b (e ∷ p)) ≡ b ∷ text_of (e ∷ p)
on_first b e [] = refl
on_first b e (f ∷ p) = refl

onto_text : (b : ℕ) (p : Path) → (0 < length p) → text_of (onto_first b p) ≡ b ∷ text_of p
onto_text b [] some = absurd (omega arith)
onto_text b (e ∷ p) some = on_first b e p
