-- The edits under a directory stand together.
use Rattle.std.proofs.Common.{◌≡◌, ℕ, zero, suc, ◌<◌, ◌≤◌, true, false, cond, not, List, [], ◌∷◌, length, take, drop, get_or, refl, sym, ap, ◌∙◌, arith}
use Rattle.std.specs.Prelude.{nat_lt}
use Rattle.std.specs.List.Sorted.{IsPartitionedBy}
use Rattle.std.specs.FinMap.{is_sorted}
use Rattle.std.specs.FinMap.Entries.{below_all}
use Rattle.std.proofs.lemmas.Bool.{and_parts, ltb-true as ltb_true, ltb-false as ltb_false, false_from_ne_true}
use Rattle.bonsai.specs.declared.edit.Edit.{Edit}
use Rattle.bonsai.specs.View.{edit_view, edits_view}
use Rattle.bonsai.proofs.Between.{under_between}
use Rattle.changeset_model.specs.Path.{Path, path_cmp, path_lt, is_strict_prefix}
use Rattle.changeset_model.proofs.Rising.{path_lt-trans}
use Rattle.manifest_laws.proofs.Lists.{true_and_false}
use Rattle.manifest_laws.proofs.Folded.{under_is_more}
use Rattle.derive_step.specs.Slices.{edits_in}
use Rattle.derive_step.proofs.Above.{by_test}
use Rattle.changeset_model.proofs.Spelling.{is_false as not_true}
use Rattle.tree_fold.proofs.Trees.{both as both_true}

-- ---- truth values

-- ---- by rising paths

below_parts : (q : Path) (x : Edit) (xs : List Edit) → below_all path_cmp q (edits_view (x ∷ xs)) ≡ true → (path_lt q x.path ≡ true) × (below_all path_cmp q (edits_view xs) ≡ true)
below_parts q x xs h = and_parts (path_lt q x.path) (below_all path_cmp q (edits_view xs)) h

sorted_parts : (x : Edit) (xs : List Edit) → is_sorted path_cmp (edits_view (x ∷ xs)) ≡ true → (below_all path_cmp x.path (edits_view xs) ≡ true) × (is_sorted path_cmp (edits_view xs) ≡ true)
sorted_parts x xs h = and_parts (below_all path_cmp x.path (edits_view xs)) (is_sorted path_cmp (edits_view xs)) h

below_at : (q : Path) (xs : List Edit) → below_all path_cmp q (edits_view xs) ≡ true → (j : ℕ) (z : Edit) → j < length xs → path_lt q (get_or xs j z).path ≡ true
below_at q [] h j z less = absurd (omega arith)
below_at q (x ∷ xs) h zero z less = (below_parts q x xs h).0
below_at q (x ∷ xs) h (suc j) z less = below_at q xs (below_parts q x xs h).1 j z (omega arith)

rises : (xs : List Edit) → is_sorted path_cmp (edits_view xs) ≡ true → (i j : ℕ) (z : Edit) → i < j → j < length xs → path_lt (get_or xs i z).path (get_or xs j z).path ≡ true
rises [] h i j z more less = absurd (omega arith)
rises (x ∷ xs) h i zero z more less = absurd (omega arith)
rises (x ∷ xs) h zero (suc j) z more less = below_at x.path xs (sorted_parts x xs h).0 j z (omega arith)
rises (x ∷ xs) h (suc i) (suc j) z more less = rises xs (sorted_parts x xs h).1 i j z (omega arith) (omega arith)

-- ---- those after a directory

pub sorted_drop : (i : ℕ) (xs : List Edit) → is_sorted path_cmp (edits_view xs) ≡ true → is_sorted path_cmp (edits_view (drop i xs)) ≡ true
sorted_drop zero xs h = h
sorted_drop (suc i) [] h = h
sorted_drop (suc i) (x ∷ xs) h = sorted_drop i xs (sorted_parts x xs h).1

pub below_drop : (d : Path) (i : ℕ) (xs : List Edit) → ((k : ℕ) (z : Edit) → i ≤ k → k < length xs → path_lt d (get_or xs k z).path ≡ true) → below_all path_cmp d (edits_view (drop i xs)) ≡ true
below_drop d zero [] h = refl
below_drop d (suc i) [] h = refl
below_drop d zero (x ∷ xs) h = both_true (path_lt d x.path) (below_all path_cmp d (edits_view xs)) (h zero x (omega arith) (omega arith)) (below_drop d zero xs (λ k z over less. h (suc k) z (omega arith) (omega arith)))
below_drop d (suc i) (x ∷ xs) h = below_drop d i xs (λ k z over less. h (suc k) z (omega arith) (omega arith))

not_under : (d q : Path) → path_lt d q ≡ false → is_strict_prefix d q ≡ false
not_under d q h = false_from_ne_true (is_strict_prefix d q) (λ under. true_and_false (path_lt d q) (under_is_more d q under) h)

pub same_dropped : (d : Path) (i : ℕ) (xs : List Edit) → ((k : ℕ) (z : Edit) → k < i → path_lt d (get_or xs k z).path ≡ false) → edits_in d (edits_view (drop i xs)) ≡ edits_in d (edits_view xs)
same_dropped d zero xs h = refl
same_dropped d (suc i) [] h = refl
same_dropped d (suc i) (x ∷ xs) h =
    same_dropped d i xs (λ k z less. h (suc k) z (omega arith))
    ∙ sym (ap (λ b. cond b (edit_view x ∷ edits_in d (edits_view xs)) (edits_in d (edits_view xs))) (not_under d x.path (h zero x (omega arith))))

-- ---- where the search may halve

pub later_or_same : {P : Type 0} (i j : ℕ) → i ≤ j → (i < j → P) → (i ≡ j → P) → P
later_or_same i j upto f g = by_test (nat_lt i j) (λ t. f (ltb_true i j t)) (λ t. let over = ltb_false i j t in g (omega (arith, over)))

pub parted_after : (d : Path) (xs : List Edit) → is_sorted path_cmp (edits_view xs) ≡ true → IsPartitionedBy (λ (e : Edit). not (path_lt d e.path)) xs
parted_after d xs rise i j z upto less h = later_or_same i j upto
    (λ more. ap not (false_from_ne_true (path_lt d (get_or xs i z).path) (λ low.
    true_and_false (path_lt d (get_or xs j z).path) (path_lt-trans d (get_or xs i z).path (get_or xs j z).path low (rises xs rise i j z more less)) (not_true (path_lt d (get_or xs j z).path) h))))
    (λ same. ap (λ m. not (path_lt d (get_or xs m z).path)) same ∙ h)

pub parted_under : (d : Path) (xs : List Edit) → is_sorted path_cmp (edits_view xs) ≡ true → below_all path_cmp d (edits_view xs) ≡ true → IsPartitionedBy (λ (e : Edit). is_strict_prefix d e.path) xs
parted_under d xs rise below i j z upto less h = later_or_same i j upto
    (λ more. under_between d (get_or xs i z).path (get_or xs j z).path h (below_at d xs below i z (omega arith)) (rises xs rise i j z more less))
    (λ same. ap (λ m. is_strict_prefix d (get_or xs m z).path) same ∙ h)

-- ---- those under a directory

pub taken_is : (d : Path) (i : ℕ) (xs : List Edit) → ((k : ℕ) (z : Edit) → k < i → is_strict_prefix d (get_or xs k z).path ≡ true) → ((k : ℕ) (z : Edit) → i ≤ k → k < length xs → is_strict_prefix d (get_or xs k z).path ≡ false) → edits_view (take i xs) ≡ edits_in d (edits_view xs)
taken_is d zero [] inside outside = refl
taken_is d (suc i) [] inside outside = refl
taken_is d zero (x ∷ xs) inside outside =
    taken_is d zero xs (λ k z less. absurd (omega arith)) (λ k z over less. outside (suc k) z (omega arith) (omega arith))
    ∙ sym (ap (λ b. cond b (edit_view x ∷ edits_in d (edits_view xs)) (edits_in d (edits_view xs))) (outside zero x (omega arith) (omega arith)))
taken_is d (suc i) (x ∷ xs) inside outside =
    (λ j. edit_view x ∷ taken_is d i xs (λ k z less. inside (suc k) z (omega arith)) (λ k z over less. outside (suc k) z (omega arith) (omega arith)) j)
    ∙ sym (ap (λ b. cond b (edit_view x ∷ edits_in d (edits_view xs)) (edits_in d (edits_view xs))) (inside zero x (omega arith)))
