-- Which paths edits decide, by the last that doesn't come after a path and the one that follows.
--     settled_parts      one that sets a path near, or one of that path
--     set_here, set_far      a set path is near where one beside the place is, and only there
--     edited_here, edited_last      an edit is of a path where the last one that doesn't come after it is, and only there
--     agree      two tests of which each passes where the other does
use Rattle.std.proofs.Common.{◌≡◌, ◌⊎◌, inl, inr, ⊎_elim, ℕ, zero, suc, ◌<◌, ◌≤◌, ◌-◌, Bool, true, false, not, ◌||◌, List, [], ◌∷◌, length, get_or, refl, sym, ap, ◌∙◌, arith}
use Rattle.std.specs.Prelude.{None}
use Rattle.std.specs.Borrow.{Bor}
use Rattle.std.specs.List.{list_any}
use Rattle.std.specs.Ordering.{eq_by_cmp}
use Rattle.std.specs.FinMap.{is_sorted}
use Rattle.std.proofs.lemmas.Bool.{and_parts, cases_lt, or_cases, or_left, or_right}
use Rattle.std.proofs.lemmas.List.Folds.{list_any_at}
use Rattle.bonsai.specs.declared.edit.Edit.{Edit}
use Rattle.bonsai.specs.View.{edit_view, edits_view}
use Rattle.bonsai.proofs.Between.{under_between, under_is_more}
use Rattle.changeset_model.specs.Path.{Path, comparable, is_prefix, is_strict_prefix, path_cmp, path_eq, path_lt}
use Rattle.changeset_model.specs.Changeset.{Changeset, FileChange, Set, Delete, is_changeset, self_conflict}
use Rattle.changeset_model.proofs.Paths.{path_lt_or}
use Rattle.changeset_model.proofs.Rising.{path_lt_asymmetric, path_lt_irreflexive}
use Rattle.changeset_model.proofs.Spelling.{is_false as not_true}
use Rattle.changeset_store.proofs.Mapped.{list_any-map}
use Rattle.derive_step.specs.Covering.{paths_seen, paths_set}
use Rattle.derive_step.proofs.Covered.{covered_by_last, parted_sets}
use Rattle.derive_step.proofs.Together.{parted_after}
use Rattle.manifest_laws.specs.Changes.{covers, is_covered}
use Rattle.manifest_laws.proofs.Changes.{equal_prefix}
use Rattle.manifest_laws.proofs.Flat.{is_strict_or_same, tied_self}
use Rattle.manifest_laws.proofs.Lists.{true_and_false}
use Rattle.manifest_model.proofs.Derivations.{tied_same}
use Rattle.manifest_store.specs.Moves.{settles}
use Rattle.repo_path.specs.Order.{path_eq_ties}

abbrev Edits : Type 0
Edits = List (Path × FileChange)

abbrev Shown : Type 0
Shown = List (Bor Path)

-- ---- a path that is set near, or an edit of the path

both_parts : (near same set rest : Bool) → (same ≡ true → near ≡ true) → (near || (set || rest)) ≡ ((near || set) || (same || rest))
both_parts true same set rest h = refl
both_parts false true set rest h = true_and_false true refl (sym (h refl))
both_parts false false set rest h = refl

second_part : (same set rest : Bool) → (same || (set || rest)) ≡ (set || (same || rest))
second_part true true rest = refl
second_part true false rest = refl
second_part false set rest = refl

near_itself : (q p : Path) → path_eq q p ≡ true → comparable q p ≡ true
near_itself q p same = or_right (is_prefix q p) (is_prefix p q) (equal_prefix q p same)

pub settled_parts : (p : Path) (es : Edits) → list_any (λ e. settles e p) es ≡ (list_any (λ q. comparable q p) (paths_set es) || list_any (λ e. path_eq e.0 p) es)
settled_parts p [] = refl
settled_parts p ((q, Set f copied) ∷ es) =
    ap (λ b. comparable q p || b) (settled_parts p es)
    ∙ both_parts (comparable q p) (path_eq q p) (list_any (λ q. comparable q p) (paths_set es)) (list_any (λ e. path_eq e.0 p) es) (near_itself q p)
settled_parts p ((q, Delete) ∷ es) = ap (λ b. path_eq q p || b) (settled_parts p es) ∙ second_part (path_eq q p) (list_any (λ q. comparable q p) (paths_set es)) (list_any (λ e. path_eq e.0 p) es)

-- ---- where one passes

record IsAt {X : Type 0} (t : X → Bool) (xs : List X) (k : ℕ) : Type 0 where
  inside : k < length xs
  passes : (z : X) → t (get_or xs k z) ≡ true

some_at : {X : Type 0} (t : X → Bool) (xs : List X) → list_any t xs ≡ true → (k : ℕ) × IsAt t xs k
some_at t [] h = absurd (true_and_false true refl (sym h))
some_at t (x ∷ xs) h = ⊎_elim
    (λ here. (zero, record { inside = omega arith; passes = λ z. here }))
    (λ later. let found = some_at t xs later in let inside = found.1.inside in (suc found.0, record { inside = omega arith; passes = found.1.passes }))
    (or_cases (t x) (list_any t xs) h)

first_of : {X : Type 0} (xs : List X) → 0 < length xs → X
first_of [] some = absurd (omega arith)
first_of (x ∷ xs) some = x

-- ---- above a path, and under it

above_one : (q p : Path) → comparable q p ≡ true → path_lt p q ≡ false → is_prefix q p ≡ true
above_one q p near upto = ⊎_elim (λ h. h) (λ h. by (is_strict_or_same p q h) h) (or_cases (is_prefix q p) (is_prefix p q) near)
  where
    by : (q ≡ p) ⊎ (is_strict_prefix p q ≡ true) → is_prefix p q ≡ true → is_prefix q p ≡ true
    by (inl same) h = (λ i. is_prefix (same i) (sym same i)) ∙ h
    by (inr under) h = true_and_false (path_lt p q) (under_is_more p q under) upto

not_itself : {P : Type 0} (q p : Path) → path_lt p q ≡ true → p ≡ q → P
not_itself q p later same = true_and_false (path_lt p q) later (ap (path_lt p) (sym same) ∙ path_lt_irreflexive p)

under_one : (q p : Path) → comparable q p ≡ true → path_lt p q ≡ true → is_strict_prefix p q ≡ true
under_one q p near later = ⊎_elim (λ h. by (is_strict_or_same q p h)) (λ h. on (is_strict_or_same p q h)) (or_cases (is_prefix q p) (is_prefix p q) near)
  where
    by : (p ≡ q) ⊎ (is_strict_prefix q p ≡ true) → is_strict_prefix p q ≡ true
    by (inl same) = not_itself q p later same
    by (inr above) = true_and_false (path_lt q p) (under_is_more q p above) (path_lt_asymmetric p q later)

    on : (q ≡ p) ⊎ (is_strict_prefix p q ≡ true) → is_strict_prefix p q ≡ true
    on (inl same) = not_itself q p later (sym same)
    on (inr under) = under

-- two paths are the same, or one comes before the other
ordered : {P : Type 0} (y q : Path) → (y ≡ q → P) → (path_lt y q ≡ true → P) → (path_lt q y ≡ true → P) → P
ordered {P = P} y q same before after = by (eq_by_cmp path_cmp y q) refl
  where
    by : (b : Bool) → eq_by_cmp path_cmp y q ≡ b → P
    by true e = same (tied_same y q e)
    by false e = ⊎_elim before after (path_lt_or y q (λ same. true_and_false (eq_by_cmp path_cmp y q) (ap (eq_by_cmp path_cmp y) (sym same) ∙ tied_self y) e))

-- ---- among the paths that are set

covers_sets : (d : Path) (es : Edits) → list_any (λ e. covers e d) es ≡ list_any (λ p. is_prefix p d) (paths_set es)
covers_sets d [] = refl
covers_sets d ((p, Set f copied) ∷ es) = ap (λ b. is_prefix p d || b) (covers_sets d es)
covers_sets d ((p, Delete) ∷ es) = covers_sets d es

module _ (c : Changeset) (p : Path) (ps : Shown) (rules : is_changeset c ≡ true) (clear : self_conflict c ≡ None) (are : paths_seen ps ≡ paths_set c.changes) where
  abbrev pub some_near : Bool
  some_near = list_any (λ q. comparable q p) (paths_seen ps)

  pub set_here : (k : ℕ) (z : Bor Path) → k < length ps → comparable (get_or ps k z).now p ≡ true → some_near ≡ true
  set_here k z less h = list_any-map (λ q. comparable q p) (λ q. q.now) ps ∙ list_any_at (λ (q : Bor Path). comparable q.now p) ps k z less h

  module _ (i : ℕ) (low : (k : ℕ) (z : Bor Path) → k < i → path_lt p (get_or ps k z).now ≡ false) (high : (k : ℕ) (z : Bor Path) → i ≤ k → k < length ps → path_lt p (get_or ps k z).now ≡ true) (inside : i ≤ length ps) where
    -- one above the path, or the path itself, is the last
    last_one : (k : ℕ) → k < i → ((z : Bor Path) → comparable (get_or ps k z).now p ≡ true) → (z : Bor Path) → comparable (get_or ps (i - 1) z).now p ≡ true
    last_one k less h z =
        let covered : is_covered c p ≡ true =
        covers_sets p c.changes ∙ ap (list_any (λ q. is_prefix q p)) (sym are)
        ∙ list_any-map (λ q. is_prefix q p) (λ q. q.now) ps ∙ list_any_at (λ (q : Bor Path). is_prefix q.now p) ps k z (omega arith) (above_one (get_or ps k z).now p (h z) (low k z less))
        in
        or_left (is_prefix (get_or ps (i - 1) z).now p) (is_prefix p (get_or ps (i - 1) z).now)
        (covered_by_last c p ps (i - 1) z rules clear are (omega arith) (λ j y upto. low j y (omega arith)) (λ j y over below. high j y (omega arith) below) ∙ covered)

    -- one under the path is the first that comes after it
    first_one : (k : ℕ) → i ≤ k → k < length ps → ((z : Bor Path) → comparable (get_or ps k z).now p ≡ true) → (z : Bor Path) → comparable (get_or ps i z).now p ≡ true
    first_one k upto less h z =
        let y = (get_or ps i z).now in
        let q = (get_or ps k z).now in
        let under = under_one q p (h z) (high k z upto less) in
        let is_near : is_strict_prefix p y ≡ true → comparable y p ≡ true = λ g. or_right (is_prefix y p) (is_prefix p y) (and_parts (is_prefix p y) _ g).0 in
        is_near
        (ordered y q (λ same. ap (is_strict_prefix p) same ∙ under) (λ before. under_between p y q under (high i z (omega arith) (omega arith)) before)
        (λ after. true_and_false (path_lt q y) after (not_true (path_lt q y) (parted_sets c q ps rules clear are i k z upto less (ap not (path_lt_irreflexive q))))))

    pub set_far : some_near ≡ true → ((0 < i) × ((z : Bor Path) → comparable (get_or ps (i - 1) z).now p ≡ true)) ⊎ ((i < length ps) × ((z : Bor Path) → comparable (get_or ps i z).now p ≡ true))
    set_far h =
        let found = some_at (λ (q : Bor Path). comparable q.now p) ps (sym (list_any-map (λ q. comparable q p) (λ q. q.now) ps) ∙ h) in
        let k = found.0 in
        let less = found.1.inside in
        ⊎_elim (λ (before : k < i). inl (omega arith, last_one k before found.1.passes)) (λ (upto : i ≤ k). inr (omega arith, first_one k upto less found.1.passes)) (cases_lt k i)

-- ---- among all edits

module _ (p : Path) (xs : List Edit) where
  abbrev pub some_edited : Bool
  some_edited = list_any (λ e. path_eq e.0 p) (edits_view xs)

  pub edited_here : (k : ℕ) (z : Edit) → k < length xs → path_eq (get_or xs k z).path p ≡ true → some_edited ≡ true
  edited_here k z less h = list_any-map (λ e. path_eq e.0 p) edit_view xs ∙ list_any_at (λ (e : Edit). path_eq e.path p) xs k z less h

  module _ (rise : is_sorted path_cmp (edits_view xs) ≡ true) (i : ℕ) (low : (k : ℕ) (z : Edit) → k < i → path_lt p (get_or xs k z).path ≡ false) (high : (k : ℕ) (z : Edit) → i ≤ k → k < length xs → path_lt p (get_or xs k z).path ≡ true) (inside : i ≤ length xs) where
    last_is : (k : ℕ) (z : Edit) → k < i → (get_or xs k z).path ≡ p → path_eq (get_or xs (i - 1) z).path p ≡ true
    last_is k z less same =
        let y = (get_or xs (i - 1) z).path in
        ordered y p (λ here. path_eq_ties y p ∙ ap (eq_by_cmp path_cmp y) (sym here) ∙ tied_self y)
        (λ before. true_and_false (path_lt y p) before (ap (path_lt y) (sym same) ∙ not_true (path_lt y (get_or xs k z).path) (parted_after y xs rise k (i - 1) z (omega arith) (omega arith) (ap not (path_lt_irreflexive y)))))
        (λ after. true_and_false (path_lt p y) after (low (i - 1) z (omega arith)))

    pub edited_last : some_edited ≡ true → (0 < i) × ((z : Edit) → path_eq (get_or xs (i - 1) z).path p ≡ true)
    edited_last h =
        let found = some_at (λ (e : Edit). path_eq e.path p) xs (sym (list_any-map (λ e. path_eq e.0 p) edit_view xs) ∙ h) in
        let k = found.0 in
        let less = found.1.inside in
        let same : (z : Edit) → (get_or xs k z).path ≡ p = λ z. tied_same (get_or xs k z).path p (sym (path_eq_ties (get_or xs k z).path p) ∙ found.1.passes z) in
        ⊎_elim (λ (before : k < i). (omega arith, λ z. last_is k z before (same z))) (λ (upto : i ≤ k). not_itself_at k upto less same) (cases_lt k i)
      where
        not_itself_at : {P : Type 0} (k : ℕ) → i ≤ k → k < length xs → ((z : Edit) → (get_or xs k z).path ≡ p) → P
        not_itself_at k upto less same = let z = (first_of xs (omega arith)) in not_itself (get_or xs k z).path p (high k z upto less) (sym (same z))

-- ---- two tests that agree

pub agree : (a b : Bool) → (a ≡ true → b ≡ true) → (b ≡ true → a ≡ true) → a ≡ b
agree true b f g = sym (f refl)
agree false true f g = g refl
agree false false f g = refl
