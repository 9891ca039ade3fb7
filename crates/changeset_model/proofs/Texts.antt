-- Comparability of paths, told from their texts byte by byte.
use Rattle.std.proofs.Common.{◌≡◌, ℕ, ◌+◌, ◌<◌, ◌≤◌, Bool, true, false, cond, ◌||◌, ◌&&◌, List, [], ◌∷◌, length, drop, refl, sym, ap, ◌∙◌, arith}
use Rattle.std.specs.Prelude.{◌==◌, bytes_eq, slice_index}
use mathlib.Core.Bool.{true≢false}
use Rattle.std.specs.List.{onto_first}
use Rattle.std.proofs.lemmas.Bool.{eqb-true, eqb-false, eq-eqb, ne_eqb}
use Rattle.std.proofs.lemmas.List.{drop_more, drop_all}
use Rattle.changeset_model.specs.Path.{Path, elements, is_prefix, comparable}
use Rattle.changeset_model.proofs.Accepting.{elements_some as some_elements}

-- two texts go on alike until one of them ends, and there the other ends or has a slash
abbrev pub alike : List ℕ → List ℕ → Bool
alike [] [] = true
alike [] (c ∷ q) = c == 0x2F
alike (b ∷ p) [] = b == 0x2F
alike (b ∷ p) (c ∷ q) = (b == c) && alike p q

-- ---- elements that go on

same_onto : (b : ℕ) (p q : Path) → (0 < length p) → (0 < length q) → comparable (onto_first b p) (onto_first b q) ≡ comparable p q
same_onto b [] q some other = absurd (omega arith)
same_onto b (e ∷ p) [] some other = absurd (omega arith)
same_onto b (e ∷ p) (f ∷ q) some other =
    (λ i. ((eq-eqb b b refl i && bytes_eq e f) && is_prefix p q) || ((eq-eqb b b refl i && bytes_eq f e) && is_prefix q p))

other_onto : (b c : ℕ) (p q : Path) → (b == c) ≡ false → (c == b) ≡ false → (0 < length p) → (0 < length q) → comparable (onto_first b p) (onto_first c q) ≡ false
other_onto b c [] q h g some other = absurd (omega arith)
other_onto b c (e ∷ p) [] h g some other = absurd (omega arith)
other_onto b c (e ∷ p) (f ∷ q) h g some other = (λ i. ((h i && bytes_eq e f) && is_prefix p q) || ((g i && bytes_eq f e) && is_prefix q p))

new_element : (c : ℕ) (p q : Path) → (0 < length q) → (comparable ([] ∷ p) (onto_first c q) ≡ false) × (comparable (onto_first c q) ([] ∷ p) ≡ false)
new_element c p [] some = absurd (omega arith)
new_element c p (f ∷ q) some = (refl, refl)

-- ---- texts

abbrev elements_by : Bool → ℕ → List ℕ → Path
elements_by t b text = cond t ([] ∷ elements text) (onto_first b (elements text))

pub or_true : (b : Bool) → true ≡ (b || true)
or_true true = refl
or_true false = refl

first_ends : (c : ℕ) (q : List ℕ) (t : Bool) → (t ≡ comparable ([] ∷ []) (elements_by t c q)) × (t ≡ comparable (elements_by t c q) ([] ∷ []))
first_ends c q true = (refl, or_true (is_prefix (elements q) []))
first_ends c q false = let apart = new_element c [] (elements q) (some_elements q) in (sym apart.0, sym apart.1)

not_slash : (b c : ℕ) (t u : Bool) → (b == 0x2F) ≡ t → (c == 0x2F) ≡ u → (b == c) ≡ true → t ≡ u
not_slash b c t u h g e = sym h ∙ ap (λ n. n == 0x2F) (eqb-true b c e) ∙ g

both_on : (b c : ℕ) (p q : List ℕ) → alike p q ≡ comparable (elements p) (elements q) → (t u s : Bool) → (b == 0x2F) ≡ t → (c == 0x2F) ≡ u → (b == c) ≡ s → (s && alike p q) ≡ comparable (elements_by t b p) (elements_by u c q)
both_on b c p q ih true true true h g e = ih
both_on b c p q ih true true false h g e = absurd (eqb-false b c e (eqb-true b 0x2F h ∙ sym (eqb-true c 0x2F g)))
both_on b c p q ih true false true h g e = absurd (let same = not_slash b c true false h g e in true≢false same)
both_on b c p q ih true false false h g e = sym (new_element c (elements p) (elements q) (some_elements q)).0
both_on b c p q ih false true true h g e = absurd (let same = not_slash b c false true h g e in true≢false (sym same))
both_on b c p q ih false true false h g e = sym (new_element b (elements q) (elements p) (some_elements p)).1
both_on b c p q ih false false true h g e =
    ih ∙ sym (same_onto b (elements p) (elements q) (some_elements p) (some_elements q)) ∙ ap (λ c. comparable (onto_first b (elements p)) (onto_first c (elements q))) (eqb-true b c e)
both_on b c p q ih false false false h g e = sym (other_onto b c (elements p) (elements q) e (ne_eqb c b (λ same. eqb-false b c e (sym same))) (some_elements p) (some_elements q))

pub alike-comparable : (p q : List ℕ) → alike p q ≡ comparable (elements p) (elements q)
alike-comparable [] [] = refl
alike-comparable [] (c ∷ q) = (first_ends c q (c == 0x2F)).0
alike-comparable (b ∷ p) [] = (first_ends b p (b == 0x2F)).1
alike-comparable (b ∷ p) (c ∷ q) = both_on b c p q (alike-comparable p q) (b == 0x2F) (c == 0x2F) (b == c) refl refl refl

-- ---- from a place on

pub alike-step : (p q : List ℕ) (i : ℕ) → i < length p → i < length q → alike (drop i p) (drop i q) ≡ ((slice_index p i == slice_index q i) && alike (drop (i + 1) p) (drop (i + 1) q))
alike-step p q i h g = (λ k. alike (drop_more p i 0 h k) (drop_more q i 0 g k))

pub alike-first_ends : (p q : List ℕ) (i : ℕ) → length p ≤ i → i < length q → alike (drop i p) (drop i q) ≡ (slice_index q i == 0x2F)
alike-first_ends p q i h g = (λ k. alike (drop_all i p h k) (drop_more q i 0 g k))

pub alike-second_ends : (p q : List ℕ) (i : ℕ) → i < length p → length q ≤ i → alike (drop i p) (drop i q) ≡ (slice_index p i == 0x2F)
alike-second_ends p q i h g = (λ k. alike (drop_more p i 0 h k) (drop_all i q g k))

pub alike-both_end : (p q : List ℕ) (i : ℕ) → length p ≤ i → length q ≤ i → alike (drop i p) (drop i q) ≡ true
alike-both_end p q i h g = (λ k. alike (drop_all i p h k) (drop_all i q g k))
