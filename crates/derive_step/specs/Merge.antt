-- The entries of a directory by rising names, of which some were gone through.
--     whole seen m      all of them;  entry_in seen m n      the entry of a name
--     is_before n es      each name comes before n
--     comes_before n cs, stands_under n cs      the first name comes before n, is n
--     AreAhead d es done      those that were gone through come before the names that edits reach in the directory d
--     IsMerge is_kept done left      those that were gone through keep their rules, and all rise
--     entries_in seen m n, AreMerges seen is_kept m, AreBefore seen n m, AreAfter seen n m, AreBothAhead seen d es m      the same of the entries of both parents
use Rattle.std.specs.Prelude.{◌≡◌, ℕ, Bool, true, false, List, [], ◌∷◌, ◌++◌, bytes_eq, Option}
use Rattle.std.specs.List.{list_all}
use Rattle.std.specs.Ordering.{is_lt, nat_cmp}
use Rattle.std.specs.Cmp.Lexicographic.{slice_cmp}
use Rattle.std.specs.FinMap.{is_sorted, find as find_key}
use Rattle.std.specs.FinMap.Entries.{below_all}
use Rattle.changeset_model.specs.Path.{Path, is_element}
use Rattle.changeset_model.specs.Changeset.{FileChange}
use Rattle.node_fields.specs.declared.child.Child.{Child}
use Rattle.node_fields.specs.Children.{children_seen}
use Rattle.derive_step.specs.declared.merge.Merge.{Merge}
use Rattle.derive_step.specs.declared.merge.Merges.{Merges}
use Rattle.derive_step.specs.Walk.{Sides}

abbrev pub whole : {R E : Type 0} → (R → E) → Merge R → List (List ℕ × E)
whole seen m = children_seen seen m.done.items ++ children_seen seen m.left.items

abbrev pub entry_in : {R E : Type 0} → (R → E) → Merge R → List ℕ → Option E
entry_in seen m n = find_key (slice_cmp nat_cmp) n (whole seen m)

abbrev pub is_before : {E : Type 0} → List ℕ → List (List ℕ × E) → Bool
is_before n es = list_all (λ e. is_lt (slice_cmp nat_cmp e.0 n)) es

abbrev pub comes_before : {R : Type 0} → List ℕ → List (Child R) → Bool
comes_before n [] = false
comes_before n (c ∷ cs) = is_lt (slice_cmp nat_cmp c.name n)

abbrev pub stands_under : {R : Type 0} → List ℕ → List (Child R) → Bool
stands_under n [] = false
stands_under n (c ∷ cs) = bytes_eq c.name n

abbrev pub AreAhead : {E : Type 0} → Path → List (Path × FileChange) → List (List ℕ × E) → Type 0
AreAhead d [] done = Unit {0}
AreAhead d (e ∷ es) done = ((n : List ℕ) (t : Path) → e.0 ≡ d ++ n ∷ t → is_before n done ≡ true) × AreAhead d es done

pub record IsMerge {E : Type 0} (is_kept : E → Bool) (done left : List (List ℕ × E)) : Type 0 where
  pub rising : is_sorted (slice_cmp nat_cmp) (done ++ left) ≡ true
  pub named : list_all (λ e. is_element e.0) done ≡ true
  pub kept : list_all (λ e. is_kept e.1) done ≡ true

-- ---- of both parents

abbrev pub entries_in : {R E : Type 0} → (R → E) → Merges R → List ℕ → Sides E
entries_in seen m n = (entry_in seen m.first n, entry_in seen m.second n)

abbrev pub AreMerges : {R E : Type 0} → (R → E) → (E → Bool) → Merges R → Type 0
AreMerges seen is_kept m =
    IsMerge is_kept (children_seen seen m.first.done.items) (children_seen seen m.first.left.items)
    × IsMerge is_kept (children_seen seen m.second.done.items) (children_seen seen m.second.left.items)

abbrev pub AreBefore : {R E : Type 0} → (R → E) → List ℕ → Merges R → Type 0
AreBefore seen n m = (is_before n (children_seen seen m.first.done.items) ≡ true) × (is_before n (children_seen seen m.second.done.items) ≡ true)

abbrev pub AreAfter : {R E : Type 0} → (R → E) → List ℕ → Merges R → Type 0
AreAfter seen n m = (below_all (slice_cmp nat_cmp) n (children_seen seen m.first.left.items) ≡ true) × (below_all (slice_cmp nat_cmp) n (children_seen seen m.second.left.items) ≡ true)

abbrev pub AreBothAhead : {R E : Type 0} → (R → E) → Path → List (Path × FileChange) → Merges R → Type 0
AreBothAhead seen d es m = AreAhead d es (children_seen seen m.first.done.items) × AreAhead d es (children_seen seen m.second.done.items)
