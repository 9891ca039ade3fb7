-- The elements of a text with one more byte.
use Rattle.std.proofs.Common.{◌≡◌, ℕ, ◌<◌, Bool, true, false, cond, List, [], ◌∷◌, ◌++◌, length, refl, ap, ◌∙◌, arith}
use Rattle.std.specs.Prelude.{◌==◌}
use Rattle.std.specs.List.{onto_first}
use Rattle.changeset_model.specs.Path.{Path, elements}
use Rattle.changeset_model.proofs.Accepting.{elements_some}

-- ---- a slash begins an element

onto-append : (b : ℕ) (p q : Path) → 0 < length p → onto_first b (p ++ q) ≡ onto_first b p ++ q
onto-append b [] q some = absurd (omega arith)
onto-append b (e ∷ p) q some = refl

pub elements-slash : (text : List ℕ) → elements (text ++ 0x2F ∷ []) ≡ elements text ++ [] ∷ []
elements-slash [] = refl
elements-slash (b ∷ text) = by (b == 0x2F) (elements-slash text)
  where
    by : (t : Bool) → elements (text ++ 0x2F ∷ []) ≡ elements text ++ [] ∷ [] → cond t ([] ∷ elements (text ++ 0x2F ∷ [])) (onto_first b (elements (text ++ 0x2F ∷ []))) ≡ cond t ([] ∷ elements text) (onto_first b (elements text)) ++ [] ∷ []
    by true ih = ap (λ (p : Path). [] ∷ p) ih
    by false ih = ap (onto_first b) ih ∙ onto-append b (elements text) ([] ∷ []) (elements_some text)

-- ---- any other byte goes onto the last one

abbrev pub onto_last : ℕ → Path → Path
onto_last c [] = (c ∷ []) ∷ []
onto_last c (e ∷ []) = (e ++ c ∷ []) ∷ []
onto_last c (e ∷ f ∷ p) = e ∷ onto_last c (f ∷ p)

past_first : (c : ℕ) (e : List ℕ) (p : Path) → 0 < length p → e ∷ onto_last c p ≡ onto_last c (e ∷ p)
past_first c e [] some = absurd (omega arith)
past_first c e (f ∷ p) some = refl

first_and_last : (b c : ℕ) (p : Path) → 0 < length p → onto_first b (onto_last c p) ≡ onto_last c (onto_first b p)
first_and_last b c [] some = absurd (omega arith)
first_and_last b c (e ∷ []) some = refl
first_and_last b c (e ∷ f ∷ p) some = refl

elements-other : (c : ℕ) → (c == 0x2F) ≡ false → (text : List ℕ) → elements (text ++ c ∷ []) ≡ onto_last c (elements text)
elements-other c h [] = ap (λ (t : Bool). cond t ([] ∷ [] ∷ []) ((c ∷ []) ∷ [])) h
elements-other c h (b ∷ text) = by (b == 0x2F) (elements-other c h text)
  where
    by : (t : Bool) → elements (text ++ c ∷ []) ≡ onto_last c (elements text) → cond t ([] ∷ elements (text ++ c ∷ [])) (onto_first b (elements (text ++ c ∷ []))) ≡ onto_last c (cond t ([] ∷ elements text) (onto_first b (elements text)))
    by true ih = ap (λ (p : Path). [] ∷ p) ih ∙ past_first c [] (elements text) (elements_some text)
    by false ih = ap (onto_first b) ih ∙ first_and_last b c (elements text) (elements_some text)

last_of_parts : (c : ℕ) (front : Path) (last : List ℕ) → onto_last c (front ++ last ∷ []) ≡ front ++ (last ++ c ∷ []) ∷ []
last_of_parts c [] last = refl
last_of_parts c (e ∷ []) last = refl
last_of_parts c (e ∷ f ∷ front) last = ap (λ (p : Path). e ∷ p) (last_of_parts c (f ∷ front) last)

pub elements-parts : (c : ℕ) (text : List ℕ) (front : Path) (last : List ℕ) → (c == 0x2F) ≡ false → elements text ≡ front ++ last ∷ [] → elements (text ++ c ∷ []) ≡ front ++ (last ++ c ∷ []) ∷ []
elements-parts c text front last h parts = elements-other c h text ∙ ap (onto_last c) parts ∙ last_of_parts c front last
