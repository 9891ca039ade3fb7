-- The elements of a comma list.
use Rattle.std.proofs.Common.{◌≡◌, ◌≢◌, ℕ, zero, suc, ◌+◌, ◌<◌, Bool, true, false, refl, List, [], ◌∷◌, length, get_or, take, drop, ap, ◌∙◌, arith, add-one}
use Rattle.std.specs.Prelude.{◌||◌}
use Rattle.std.proofs.lemmas.Bool.{eq-eqb, ne_eqb, cond-true, cond-false}
use Rattle.http_model.specs.Head.{cons_first, elements, is_close, names_close}

at_comma : (b : ℕ) (bytes : List ℕ) → b ≡ 44 → elements (b ∷ bytes) ≡ [] ∷ elements bytes
at_comma b bytes comma = cond-true _ _ _ (eq-eqb b 44 comma)

not_at_comma : (b : ℕ) (bytes : List ℕ) → b ≢ 44 → elements (b ∷ bytes) ≡ cons_first b (elements bytes)
not_at_comma b bytes other = cond-false _ _ _ (ne_eqb b 44 other)

-- the first element ends at the first comma
pub elements_at : (bytes : List ℕ) (i : ℕ) → i < length bytes → get_or bytes i 0 ≡ 44 → ((k : ℕ) → k < i → get_or bytes k 0 ≢ 44) → elements bytes ≡ take i bytes ∷ elements (drop (suc i) bytes)
elements_at [] i inside comma first = absurd (omega arith)
elements_at (b ∷ bytes) zero inside comma first = at_comma b bytes comma
elements_at (b ∷ bytes) (suc i) inside comma first =
    let later = elements_at bytes i (omega arith) comma (λ k below. first (suc k) (omega arith)) in
    not_at_comma b bytes (first 0 (omega arith)) ∙ ap (cons_first b) later

pub elements_whole : (bytes : List ℕ) → ((k : ℕ) → k < length bytes → get_or bytes k 0 ≢ 44) → elements bytes ≡ bytes ∷ []
elements_whole [] none = refl
elements_whole (b ∷ bytes) none =
    let later = elements_whole bytes (λ k below. none (suc k) (omega arith)) in
    not_at_comma b bytes (none 0 (omega arith)) ∙ ap (cons_first b) later

-- an element that doesn't close leaves it to those after the comma
pub names_close_at : (bytes : List ℕ) (i : ℕ) → i < length bytes → get_or bytes i 0 ≡ 44 → ((k : ℕ) → k < i → get_or bytes k 0 ≢ 44) → names_close bytes ≡ (is_close (take i bytes) || names_close (drop (i + 1) bytes))
names_close_at bytes i inside comma first = rw (elements_at bytes i inside comma first, add-one) refl

or_false : (b : Bool) → (b || false) ≡ b
or_false true = refl
or_false false = refl

pub names_close_whole : (bytes : List ℕ) → ((k : ℕ) → k < length bytes → get_or bytes k 0 ≢ 44) → names_close bytes ≡ is_close bytes
names_close_whole bytes none = rw (elements_whole bytes none) (or_false (is_close bytes))

-- ---- the steps of a walk over the elements

pub close_found : (bytes : List ℕ) (i : ℕ) → i < length bytes → get_or bytes i 0 ≡ 44 → ((k : ℕ) → k < i → get_or bytes k 0 ≢ 44) → is_close (take i bytes) ≡ true → names_close bytes ≡ true
close_found bytes i inside comma first close = names_close_at bytes i inside comma first ∙ ap (λ b. b || names_close (drop (i + 1) bytes)) close

pub close_later : (bytes : List ℕ) (i : ℕ) → i < length bytes → get_or bytes i 0 ≡ 44 → ((k : ℕ) → k < i → get_or bytes k 0 ≢ 44) → is_close (take i bytes) ≡ false → names_close bytes ≡ names_close (drop (i + 1) bytes)
close_later bytes i inside comma first other = names_close_at bytes i inside comma first ∙ ap (λ b. b || names_close (drop (i + 1) bytes)) other
