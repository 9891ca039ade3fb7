-- Whether a set path is above a directory, told by the last one that doesn't come after it.
use Rattle.std.proofs.Common.{◌≡◌, ◌⊎◌, inl, inr, ℕ, zero, suc, ◌<◌, ◌≤◌, Bool, true, false, ◌||◌, List, [], ◌∷◌, ◌++◌, length, get_or, refl, sym, ap, subst, ◌∙◌, arith}
use Rattle.std.specs.Prelude.{Option, None, option_map, find, not}
use Rattle.std.specs.Borrow.{Bor}
use Rattle.std.specs.List.{AllByRecursion, list_any}
use Rattle.std.specs.List.Sorted.{IsPartitionedBy}
use Rattle.std.specs.Ordering.{eq_by_cmp}
use Rattle.std.specs.FinMap.{is_sorted}
use Rattle.std.specs.FinMap.Entries.{below_all}
use Rattle.std.proofs.lemmas.Bool.{and_parts, false_from_ne_true}
use Rattle.bonsai.proofs.Between.{under_between}
use Rattle.changeset_model.specs.Path.{Path, path_cmp, path_lt, is_prefix, is_strict_prefix}
use Rattle.changeset_model.specs.Changeset.{File, FileChange, Set, Delete, Changeset, sets_of, self_conflict, is_changeset}
use Rattle.changeset_model.proofs.Paths.{path_lt_or}
use Rattle.changeset_model.proofs.Rising.{path_lt_irreflexive, path_lt_asymmetric, path_lt-trans}
use Rattle.bonsai.proofs.Rules.{changes_rise}
use Rattle.manifest_model.proofs.Derivations.{tied_same}
use Rattle.manifest_laws.specs.Changes.{covers, is_covered}
use Rattle.manifest_laws.proofs.Lists.{true_and_false}
use Rattle.byte_fields.proofs.Lists.{none_first, none_found}
use Rattle.byte_fields.proofs.Booleans.{unmapped as no_map}
use Rattle.manifest_laws.proofs.Flat.{sets_in, is_strict_or_same, tied_self}
use Rattle.manifest_laws.proofs.Folded.{under_is_more}
use Rattle.derive_step.specs.Covering.{paths_seen, paths_set}
use Rattle.derive_step.proofs.Together.{later_or_same}
use Rattle.changeset_model.proofs.Spelling.{is_false as not_true}
use Rattle.byte_fields.proofs.Booleans.{or_false}
use Rattle.byte_fields.proofs.Lists.{weaker as all_by}

abbrev Edits : Type 0
Edits = List (Path × FileChange)

-- ---- the paths that are set

pub set_first : (e : Path × FileChange) (es : Edits) → paths_set (e ∷ es) ≡ paths_set (e ∷ []) ++ paths_set es
set_first (p, Set f copied) es = refl
set_first (p, Delete) es = refl

covers_sets : (d : Path) (es : Edits) → list_any (λ e. covers e d) es ≡ list_any (λ p. is_prefix p d) (paths_set es)
covers_sets d [] = refl
covers_sets d ((p, Set f copied) ∷ es) = ap (λ b. is_prefix p d || b) (covers_sets d es)
covers_sets d ((p, Delete) ∷ es) = covers_sets d es

-- each comes before all that follow it, and above none of them
abbrev AreOuter : List Path → Type 0
AreOuter [] = Unit {0}
AreOuter (p ∷ ps) = AllByRecursion (λ q. (path_lt p q ≡ true) × (is_strict_prefix p q ≡ false)) ps × AreOuter ps

firsts : (p : Path) (es : Edits) → below_all path_cmp p es ≡ true → AllByRecursion (λ (long : Path × File). is_strict_prefix p long.0 ≡ false) (sets_in es) → AllByRecursion (λ q. (path_lt p q ≡ true) × (is_strict_prefix p q ≡ false)) (paths_set es)
firsts p [] below h = tt
firsts p ((q, Delete) ∷ es) below h = firsts p es (and_parts (path_lt p q) (below_all path_cmp p es) below).1 h
firsts p ((q, Set f copied) ∷ es) below h = let parts = and_parts (path_lt p q) (below_all path_cmp p es) below in ((parts.0, h.0), firsts p es parts.1 h.1)

abbrev AreAlone : List (Path × File) → List (Path × File) → Type 0
AreAlone sets longs = AllByRecursion (λ (long : Path × File). AllByRecursion (λ (short : Path × File). is_strict_prefix short.0 long.0 ≡ false) sets) longs

outer_sets : (es : Edits) → is_sorted path_cmp es ≡ true → AreAlone (sets_in es) (sets_in es) → AreOuter (paths_set es)
outer_sets [] rise h = tt
outer_sets ((p, Delete) ∷ es) rise h = outer_sets es (and_parts (below_all path_cmp p es) (is_sorted path_cmp es) rise).1 h
outer_sets ((p, Set f copied) ∷ es) rise h =
    let parts = and_parts (below_all path_cmp p es) (is_sorted path_cmp es) rise in
    let all : (long : Path × File) → Type 0 = λ long. AllByRecursion (λ (short : Path × File). is_strict_prefix short.0 long.0 ≡ false) (sets_in ((p, Set f copied) ∷ es)) in
    let rest : (long : Path × File) → Type 0 = λ long. AllByRecursion (λ (short : Path × File). is_strict_prefix short.0 long.0 ≡ false) (sets_in es) in (
      firsts p es parts.0 (all_by all (λ (long : Path × File). is_strict_prefix p long.0 ≡ false) (λ long k. k.0) (sets_in es) h.1),
      outer_sets es parts.1 (all_by all rest (λ long k. k.1) (sets_in es) h.1),
    )

are_alone : (c : Changeset) → self_conflict c ≡ None → AreAlone (sets_of c) (sets_of c)
are_alone c clear =
    let sets = sets_of c in
    let lone : (long : Path × File) → Option (Path × Path) = λ long. option_map (λ (short : Path × File). (short.0, long.0)) (find (λ (short : Path × File). is_strict_prefix short.0 long.0) sets) in
    all_by (λ long. lone long ≡ None) (λ (long : Path × File). AllByRecursion (λ (short : Path × File). is_strict_prefix short.0 long.0 ≡ false) sets)
    (λ long k. none_found (λ (short : Path × File). is_strict_prefix short.0 long.0) sets (no_map (λ (short : Path × File). (short.0, long.0)) (find (λ (short : Path × File). is_strict_prefix short.0 long.0) sets) k))
    sets (none_first lone sets clear)

-- ---- a path above a directory

later_no_front : (d p : Path) → path_lt d p ≡ true → is_prefix p d ≡ false
later_no_front d p later = false_from_ne_true (is_prefix p d) (λ h. by (is_strict_or_same p d h))
  where
    by : (d ≡ p) ⊎ (is_strict_prefix p d ≡ true) → ⊥
    by (inl same) = true_and_false (path_lt d p) later (ap (path_lt d) (sym same) ∙ path_lt_irreflexive d)
    by (inr under) = true_and_false (path_lt d p) later (path_lt_asymmetric p d (under_is_more p d under))

-- q, which comes after p and doesn't lie under it, doesn't come after d
passed_no_front : (d p q : Path) → path_lt p q ≡ true → is_strict_prefix p q ≡ false → path_lt d q ≡ false → is_prefix p d ≡ false
passed_no_front d p q less apart upto = false_from_ne_true (is_prefix p d) (λ h. by (is_strict_or_same p d h))
  where
    under_by : is_strict_prefix p d ≡ true → (b : Bool) → eq_by_cmp path_cmp q d ≡ b → ⊥
    under_by under true same = true_and_false (is_strict_prefix p q) (ap (is_strict_prefix p) (tied_same q d same) ∙ under) apart
    under_by under false other = order (path_lt_or q d (λ same. true_and_false (eq_by_cmp path_cmp q d) (ap (eq_by_cmp path_cmp q) (sym same) ∙ tied_self q) other))
      where
        order : (path_lt q d ≡ true) ⊎ (path_lt d q ≡ true) → ⊥
        order (inl before) = true_and_false (is_strict_prefix p q) (under_between p q d under less before) apart
        order (inr after) = true_and_false (path_lt d q) after upto

    by : (d ≡ p) ⊎ (is_strict_prefix p d ≡ true) → ⊥
    by (inl same) = true_and_false (path_lt d q) (ap (λ x. path_lt x q) same ∙ less) upto
    by (inr under) = under_by under (eq_by_cmp path_cmp q d) refl

-- ---- by the place

abbrev Shown : Type 0
Shown = List (Bor Path)

none_covers : (d : Path) (ps : Shown) → ((k : ℕ) (z : Bor Path) → k < length ps → path_lt d (get_or ps k z).now ≡ true) → list_any (λ p. is_prefix p d) (paths_seen ps) ≡ false
none_covers d [] h = refl
none_covers d (p ∷ ps) h = λ i. later_no_front d p.now (h zero p (omega arith)) i || none_covers d ps (λ k z less. h (suc k) z (omega arith)) i

last_covers : (d : Path) (ps : Shown) (i : ℕ) (y : Bor Path) → AreOuter (paths_seen ps) → i < length ps → ((k : ℕ) (z : Bor Path) → k ≤ i → path_lt d (get_or ps k z).now ≡ false) → ((k : ℕ) (z : Bor Path) → i < k → k < length ps → path_lt d (get_or ps k z).now ≡ true)
    → list_any (λ p. is_prefix p d) (paths_seen ps) ≡ is_prefix (get_or ps i y).now d
last_covers d [] i y outer inside low high = absurd (omega arith)
last_covers d (p ∷ ps) zero y outer inside low high = ap (λ b. is_prefix p.now d || b) (none_covers d ps (λ k z less. high (suc k) z (omega arith) (omega arith))) ∙ or_false (is_prefix p.now d)
last_covers d (p ∷ []) (suc i) y outer inside low high = absurd (omega arith)
last_covers d (p ∷ q ∷ ps) (suc i) y outer inside low high =
    λ j. passed_no_front d p.now q.now outer.0.0.0 outer.0.0.1 (low (suc zero) q (omega arith)) j
    || last_covers d (q ∷ ps) i y outer.1 (omega arith) (λ k z upto. low (suc k) z (omega arith)) (λ k z over less. high (suc k) z (omega arith) (omega arith)) j

-- ---- of a changeset

outer_seen : (c : Changeset) (ps : Shown) → is_changeset c ≡ true → self_conflict c ≡ None → paths_seen ps ≡ paths_set c.changes → AreOuter (paths_seen ps)
outer_seen c ps rules clear are = subst AreOuter (sym are) (outer_sets c.changes (changes_rise c rules) (are_alone c clear))

covered_seen : (c : Changeset) (d : Path) (ps : Shown) → paths_seen ps ≡ paths_set c.changes → list_any (λ p. is_prefix p d) (paths_seen ps) ≡ is_covered c d
covered_seen c d ps are = ap (list_any (λ p. is_prefix p d)) are ∙ sym (covers_sets d c.changes)

pub uncovered : (c : Changeset) (d : Path) (ps : Shown) → paths_seen ps ≡ paths_set c.changes → ((k : ℕ) (z : Bor Path) → k < length ps → path_lt d (get_or ps k z).now ≡ true) → false ≡ is_covered c d
uncovered c d ps are after = sym (none_covers d ps after) ∙ covered_seen c d ps are

pub covered_by_last : (c : Changeset) (d : Path) (ps : Shown) (i : ℕ) (y : Bor Path) → is_changeset c ≡ true → self_conflict c ≡ None → paths_seen ps ≡ paths_set c.changes → i < length ps → ((k : ℕ) (z : Bor Path) → k ≤ i → path_lt d (get_or ps k z).now ≡ false) → ((k : ℕ) (z : Bor Path) → i < k → k < length ps → path_lt d (get_or ps k z).now ≡ true)
    → is_prefix (get_or ps i y).now d ≡ is_covered c d
covered_by_last c d ps i y rules clear are inside low high = sym (last_covers d ps i y (outer_seen c ps rules clear are) inside low high) ∙ covered_seen c d ps are

-- ---- where the search may halve

outer_after : (p : Path) (ps : Shown) (j : ℕ) (z : Bor Path) → AllByRecursion (λ q. (path_lt p q ≡ true) × (is_strict_prefix p q ≡ false)) (paths_seen ps) → j < length ps → path_lt p (get_or ps j z).now ≡ true
outer_after p [] j z h less = absurd (omega arith)
outer_after p (q ∷ ps) zero z h less = h.0.0
outer_after p (q ∷ ps) (suc j) z h less = outer_after p ps j z h.1 (omega arith)

outer_rises : (ps : Shown) → AreOuter (paths_seen ps) → (i j : ℕ) (z : Bor Path) → i < j → j < length ps → path_lt (get_or ps i z).now (get_or ps j z).now ≡ true
outer_rises [] h i j z more less = absurd (omega arith)
outer_rises (p ∷ ps) h i zero z more less = absurd (omega arith)
outer_rises (p ∷ ps) h zero (suc j) z more less = outer_after p.now ps j z h.0 (omega arith)
outer_rises (p ∷ ps) h (suc i) (suc j) z more less = outer_rises ps h.1 i j z (omega arith) (omega arith)

pub parted_sets : (c : Changeset) (d : Path) (ps : Shown) → is_changeset c ≡ true → self_conflict c ≡ None → paths_seen ps ≡ paths_set c.changes → IsPartitionedBy (λ (p : Bor Path). not (path_lt d p.now)) ps
parted_sets c d ps rules clear are i j z upto less h = later_or_same i j upto
    (λ more. ap not (false_from_ne_true (path_lt d (get_or ps i z).now) (λ low.
    true_and_false (path_lt d (get_or ps j z).now) (path_lt-trans d (get_or ps i z).now (get_or ps j z).now low (outer_rises ps (outer_seen c ps rules clear are) i j z more less)) (not_true (path_lt d (get_or ps j z).now) h))))
    (λ same. ap (λ m. not (path_lt d (get_or ps m z).now)) same ∙ h)
