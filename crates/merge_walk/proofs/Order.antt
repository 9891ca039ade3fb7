-- Meetings by rising paths, of which none is above another.
use Rattle.std.proofs.Common.{◌≡◌, Bool, true, false, cond, not, ◌||◌, List, [], ◌∷◌, ◌++◌, ap, ◌∙◌, append_assoc}
use Rattle.std.specs.Prelude.{Option, None, Some}
use Rattle.std.specs.List.{AllByRecursion, cons_option}
use Rattle.std.specs.Option.{option_and_then}
use Rattle.std.specs.declared.cmp.Ordering.TheVariants.{Less}
use Rattle.std.specs.Ordering.{is_lt, ordering_then}
use Rattle.std.specs.Cmp.{tied_itself}
use Rattle.std.specs.Cmp.Lexicographic.{nat_list_cmp_total}
use Rattle.std.specs.FinMap.{is_sorted, find as find_key}
use Rattle.std.specs.FinMap.Entries.{below_all}
use Rattle.byte_fields.proofs.Lists.{weaker, all_both}
use Rattle.changeset_model.specs.Path.{Path, path_cmp, path_lt, is_path}
use Rattle.changeset_model.proofs.Rising.{less_of}
use Rattle.manifest_model.specs.Fsnode.{FsEntry}
use Rattle.manifest_laws.proofs.Names.{Name, name_cmp}
use Rattle.repo_path.proofs.Faults.{first_of_two as first_of, second_of_two as second_of}
use Rattle.merge_walk.specs.Meeting.{Meeting, is_same, met_here, met_among, met}
use Rattle.merge_walk.proofs.Merging.{Entries}

-- whatever is at or under p comes before whatever is at or under q
abbrev pub IsBefore : Path → Path → Type 0
IsBefore p q = (r s : Path) → path_lt (p ++ r) (q ++ s) ≡ true

abbrev pub AreOrdered : List Meeting → Type 0
AreOrdered [] = Unit {0}
AreOrdered (m ∷ ms) = AllByRecursion (λ k. IsBefore m.0 k.0) ms × AreOrdered ms

under_left : (p q u : Path) → IsBefore p q → IsBefore (p ++ u) q
under_left p q u h = λ r s. ap (λ x. path_lt x (q ++ s)) (append_assoc p u r) ∙ h (u ++ r) s

apart_by_name : (d : Path) (n m : Name) (r s : Path) → name_cmp n m ≡ Less → path_cmp (d ++ n ∷ r) (d ++ m ∷ s) ≡ Less
apart_by_name [] n m r s less = ap (λ o. ordering_then o (path_cmp r s)) less
apart_by_name (k ∷ d) n m r s less = ap (λ o. ordering_then o (path_cmp (d ++ n ∷ r) (d ++ m ∷ s))) (tied_itself nat_list_cmp_total k) ∙ apart_by_name d n m r s less

pub before_name : (d : Path) (n m : Name) → name_cmp n m ≡ Less → IsBefore (d ++ n ∷ []) (d ++ m ∷ [])
before_name d n m less = λ r s. (λ i. path_lt (append_assoc d (n ∷ []) r i) (append_assoc d (m ∷ []) s i)) ∙ ap is_lt (apart_by_name d n m r s less)

-- ---- what is met in a directory

-- it is what holds of each path in a directory by one of the names
met_all : (P : Meeting → Type 0) (d : Path) (gs : Entries) (e : Name × FsEntry) → ((g : FsEntry) → P (d ++ e.0 ∷ [], (e.1, g))) → (rest : List Meeting) → AllByRecursion P rest → AllByRecursion P (cons_option (met_among d gs e) rest)
met_all P d gs e holds rest all = found (find_key name_cmp e.0 gs)
  where
    here : (g : FsEntry) (s t : Bool) → AllByRecursion P (cons_option (cond (s || t) None (Some (d ++ e.0 ∷ [], (e.1, g)))) rest)
    here g true t = all
    here g false true = all
    here g false false = (holds g, all)

    found : (o : Option FsEntry) → AllByRecursion P (cons_option (option_and_then (met_here d e) o) rest)
    found None = all
    found (Some g) = here g (is_same e.1 g) (not (is_path (d ++ e.0 ∷ [])))

later_names : (d : Path) (n : Name) (es gs : Entries) → below_all name_cmp n es ≡ true → AllByRecursion (λ k. IsBefore (d ++ n ∷ []) k.0) (met d es gs)
later_names d n [] gs below = tt
later_names d n (e ∷ es) gs below =
    met_all (λ k. IsBefore (d ++ n ∷ []) k.0) d gs e (λ g. before_name d n e.0 (less_of (name_cmp n e.0) (first_of (is_lt (name_cmp n e.0)) (below_all name_cmp n es) below))) (met d es gs)
    (later_names d n es gs (second_of (is_lt (name_cmp n e.0)) (below_all name_cmp n es) below))

pub met_ordered : (d : Path) (es gs : Entries) → is_sorted name_cmp es ≡ true → AreOrdered (met d es gs)
met_ordered d [] gs sorted = tt
met_ordered d (e ∷ es) gs sorted = found (met_ordered d es gs (second_of (below_all name_cmp e.0 es) (is_sorted name_cmp es) sorted)) (find_key name_cmp e.0 gs)
  where
    here : AreOrdered (met d es gs) → (g : FsEntry) (s t : Bool) → AreOrdered (cons_option (cond (s || t) None (Some (d ++ e.0 ∷ [], (e.1, g)))) (met d es gs))
    here rest g true t = rest
    here rest g false true = rest
    here rest g false false = (later_names d e.0 es gs (first_of (below_all name_cmp e.0 es) (is_sorted name_cmp es) sorted), rest)

    found : AreOrdered (met d es gs) → (o : Option FsEntry) → AreOrdered (cons_option (option_and_then (met_here d e) o) (met d es gs))
    found rest None = rest
    found rest (Some g) = here rest g (is_same e.1 g) (not (is_path (d ++ e.0 ∷ [])))

-- they are all under the directory
pub met_under : (P : Path → Type 0) (d : Path) → ((n : Name) → P (d ++ n ∷ [])) → (es gs : Entries) → AllByRecursion (λ k. P k.0) (met d es gs)
met_under P d holds [] gs = tt
met_under P d holds (e ∷ es) gs = met_all (λ k. P k.0) d gs e (λ g. holds e.0) (met d es gs) (met_under P d holds es gs)

both_ordered : (ms ks : List Meeting) → AreOrdered ms → AreOrdered ks → AllByRecursion (λ m. AllByRecursion (λ k. IsBefore m.0 k.0) ks) ms → AreOrdered (ms ++ ks)
both_ordered [] ks ordered others all = others
both_ordered (m ∷ ms) ks ordered others all = (all_both (λ k. IsBefore m.0 k.0) ms ks ordered.0 all.0, both_ordered ms ks ordered.1 others all.1)

-- what is met in the first directory stands in its place
pub opened_ordered : (d : Path) (es gs : Entries) (ks : List Meeting) → is_sorted name_cmp es ≡ true → AllByRecursion (λ k. IsBefore d k.0) ks → AreOrdered ks → AreOrdered (met d es gs ++ ks)
opened_ordered d es gs ks sorted first others =
    both_ordered (met d es gs) ks (met_ordered d es gs sorted) others
    (met_under (λ p. AllByRecursion (λ k. IsBefore p k.0) ks) d (λ n. weaker (λ k. IsBefore d k.0) (λ k. IsBefore (d ++ n ∷ []) k.0) (λ k h. under_left d k.0 (n ∷ []) h) ks first) es gs)
