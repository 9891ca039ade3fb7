-- The least unresolved path, and what isn't unresolved.
use Rattle.std.proofs.Common.{◌≡◌, inl, inr, Bool, true, false, cond, not, ◌&&◌, ◌||◌, Some, None, List, [], ◌∷◌, ◌++◌, map, filter, refl, sym, ap, subst, ◌∙◌}
use Rattle.std.specs.Prelude.{Contains}
use mathlib.Core.Bool.{true≢false}
use Rattle.std.specs.List.{AllByRecursion, list_any}
use Rattle.std.specs.FinMap.{is_sorted}
use Rattle.std.specs.FinMap.Entries.{below_all}
use Rattle.std.proofs.lemmas.Bool.{and_parts, or_left, or_right}
use Rattle.std.proofs.lemmas.List.{map-append}
use Rattle.byte_fields.proofs.Lists.{weaker, each_of, both_parts, all_both, contains_head, contains_tail}
use Rattle.byte_fields.proofs.Booleans.{same_some}
use Rattle.changeset_model.specs.Path.{Path, path_cmp, path_lt, path_eq, rising, IsRising}
use Rattle.changeset_model.specs.Changeset.{File, Changeset}
use Rattle.changeset_model.proofs.Rising.{each_rising, from_rising, IsRising-rising, path_lt_irreflexive, path_lt_asymmetric}
use Rattle.history_model.specs.Tree.{decides, file_at}
use Rattle.history_model.specs.Merge.{stands_against, is_unresolved, least_of, unresolved}
use Rattle.history_model.proofs.Clashes.{not_both as clash}
use Rattle.repo_path.proofs.Faults.{first_of_two as first_of, second_of_two as second_of}
use Rattle.tree_fold.proofs.Files.{same_path, path_eq_itself}
use Rattle.merge_tree.specs.Unresolved.{IsLeftAgainst, IsUnresolved}
use Rattle.merge_tree.proofs.Placing.{at_first}

abbrev Files : Type 0
Files = List (Path × File)

-- ---- some and each

any_found : {X : Type 0} (t : X → Bool) (xs : List X) → list_any t xs ≡ true → (x : X) × Contains xs x × (t x ≡ true)
any_found t [] h = absurd (true≢false (sym h))
any_found {X} t (x ∷ xs) h = by (any_found t xs) (t x) refl h
  where
    by : (list_any t xs ≡ true → (y : X) × Contains xs y × (t y ≡ true)) → (b : Bool) → t x ≡ b → (b || list_any t xs) ≡ true → (y : X) × Contains (x ∷ xs) y × (t y ≡ true)
    by later true e h = (x, contains_head x xs, e)
    by later false e h = let rest = later h in (rest.0, contains_tail x rest.0 xs rest.1, rest.2)

each_any : {X : Type 0} (t : X → Bool) (xs : List X) → AllByRecursion (λ x. t x ≡ true → list_any t xs ≡ true) xs
each_any t [] = tt
each_any t (x ∷ xs) = (λ h. or_left (t x) (list_any t xs) h, weaker _ _ (λ y later h. or_right (t x) (list_any t xs) (later h)) xs (each_any t xs))

any_of : {X : Type 0} (t : X → Bool) (xs : List X) (x : X) → Contains xs x → t x ≡ true → list_any t xs ≡ true
any_of t xs x c = each_of (λ x. t x ≡ true → list_any t xs ≡ true) xs x (each_any t xs) c

-- ---- those that pass

is_not : (b : Bool) → not b ≡ true → b ≡ false
is_not true h = absurd (true≢false (sym h))
is_not false h = refl

against_of : (c : Changeset) (left right : Files) (e : Path × File) → Contains left e → is_unresolved c right e ≡ true → IsLeftAgainst c left right e.0
against_of c left right e there h =
    let parts = and_parts (not (decides c e.0)) (list_any (stands_against c e) right) h in
    let found = any_found (stands_against c e) right parts.1 in
    record { file = e.1; there = there; is_left = is_not (decides c e.0) parts.0; other = found.0; other_there = found.1; stands = found.2 }

pass_of : (c : Changeset) (left right : Files) (q : Path) (u : IsLeftAgainst c left right q) → is_unresolved c right (q, u.file) ≡ true
pass_of c left right q u = (λ i. not (u.is_left i) && any_of (stands_against c (q, u.file)) right u.other u.other_there u.stands i)

all_against : (c : Changeset) (left right fs : Files) → AllByRecursion (Contains left) fs → AllByRecursion (IsLeftAgainst c left right) (map (λ e. e.0) (filter (is_unresolved c right) fs))
all_against c left right [] all = tt
all_against c left right (e ∷ fs) all = by (all_against c left right fs all.1) (is_unresolved c right e) refl
  where
    by : AllByRecursion (IsLeftAgainst c left right) (map (λ e. e.0) (filter (is_unresolved c right) fs)) → (b : Bool) → is_unresolved c right e ≡ b → AllByRecursion (IsLeftAgainst c left right) (map (λ e. e.0) (cond b (e ∷ filter (is_unresolved c right) fs) (filter (is_unresolved c right) fs)))
    by rest true h = (against_of c left right e all.0 h, rest)
    by rest false h = rest

each_passed : (P : Path → Type 0) (pass : Path × File → Bool) (fs : Files) → AllByRecursion P (map (λ e. e.0) (filter pass fs)) → AllByRecursion (λ e. pass e ≡ true → P e.0) fs
each_passed P pass [] all = tt
each_passed P pass (e ∷ fs) all = by (each_passed P pass fs) (pass e) refl all
  where
    by : (AllByRecursion P (map (λ e. e.0) (filter pass fs)) → AllByRecursion (λ e. pass e ≡ true → P e.0) fs) → (b : Bool) → pass e ≡ b → AllByRecursion P (map (λ e. e.0) (cond b (e ∷ filter pass fs) (filter pass fs))) → (pass e ≡ true → P e.0) × AllByRecursion (λ e. pass e ≡ true → P e.0) fs
    by later true h all = ((λ _. all.0), later all.1)
    by later false h all = ((λ g. absurd (clash (pass e) g h)), later all)

abbrev paths_of : Changeset → Files → Files → List Path
paths_of c left right = map (λ e. e.0) (filter (is_unresolved c right) left ++ filter (is_unresolved c left) right)

parts_of : (c : Changeset) (left right : Files) → paths_of c left right ≡ map (λ e. e.0) (filter (is_unresolved c right) left) ++ map (λ e. e.0) (filter (is_unresolved c left) right)
parts_of c left right = map-append (λ (e : Path × File). e.0) (filter (is_unresolved c right) left) (filter (is_unresolved c left) right)

each_file : (fs : Files) → AllByRecursion (Contains fs) fs
each_file [] = tt
each_file (e ∷ fs) = (contains_head e fs, weaker (Contains fs) (Contains (e ∷ fs)) (λ x c. contains_tail e x fs c) fs (each_file fs))

all_unresolved : (c : Changeset) (left right : Files) → AllByRecursion (IsUnresolved c left right) (paths_of c left right)
all_unresolved c left right =
    subst (AllByRecursion (IsUnresolved c left right)) (sym (parts_of c left right))
    (all_both (IsUnresolved c left right) (map (λ e. e.0) (filter (is_unresolved c right) left)) (map (λ e. e.0) (filter (is_unresolved c left) right))
    (weaker (IsLeftAgainst c left right) (IsUnresolved c left right) (λ q u. inl u) (map (λ e. e.0) (filter (is_unresolved c right) left)) (all_against c left right left (each_file left)))
    (weaker (IsLeftAgainst c right left) (IsUnresolved c left right) (λ q u. inr u) (map (λ e. e.0) (filter (is_unresolved c left) right)) (all_against c right left right (each_file right))))

-- what holds of all that are listed holds of each that is unresolved
holds_of : (P : Path → Type 0) (c : Changeset) (left right : Files) (p : Path) → AllByRecursion P (rising (paths_of c left right)) → IsUnresolved c left right p → P p
holds_of P c left right p all u =
    let each = subst (AllByRecursion P) (parts_of c left right) (from_rising P (paths_of c left right) all) in
    let parts = both_parts P (map (λ e. e.0) (filter (is_unresolved c right) left)) (map (λ e. e.0) (filter (is_unresolved c left) right)) each in
    by parts.0 parts.1 u
  where
    by : AllByRecursion P (map (λ e. e.0) (filter (is_unresolved c right) left)) → AllByRecursion P (map (λ e. e.0) (filter (is_unresolved c left) right)) → IsUnresolved c left right p → P p
    by ls rs (inl u) = each_of (λ e. is_unresolved c right e ≡ true → P e.0) left (p, u.file) (each_passed P (is_unresolved c right) left ls) u.there (pass_of c left right p u)
    by ls rs (inr u) = each_of (λ e. is_unresolved c left e ≡ true → P e.0) right (p, u.file) (each_passed P (is_unresolved c left) right rs) u.there (pass_of c right left p u)

-- ---- the first of those in order

first_has : (P : Path → Type 0) (ps : List Path) (q : Path) → AllByRecursion P ps → least_of ps ≡ Some q → P q
first_has P [] q all h = absurd cc
first_has P (p ∷ ps) q all h = subst P (same_some p q h) all.0

first_least : (ps : List Path) (q : Path) → IsRising ps → least_of ps ≡ Some q → AllByRecursion (λ p. path_lt p q ≡ false) ps
first_least [] q rises h = tt
first_least (p ∷ ps) q rises h = subst (λ q. AllByRecursion (λ p. path_lt p q ≡ false) (p ∷ ps)) (same_some p q h) (path_lt_irreflexive p, weaker (λ r. path_lt p r ≡ true) (λ r. path_lt r p ≡ false) (λ r less. path_lt_asymmetric p r less) ps rises.0)

none_first : (ps : List Path) → least_of ps ≡ None → AllByRecursion (λ p. ⊥) ps
none_first [] h = tt
none_first (p ∷ ps) h = absurd cc

pub told_is_unresolved : (c : Changeset) (left right : Files) (q : Path) → unresolved c left right ≡ Some q → IsUnresolved c left right q
told_is_unresolved c left right q h = first_has (IsUnresolved c left right) (rising (paths_of c left right)) q (each_rising (IsUnresolved c left right) (paths_of c left right) (all_unresolved c left right)) h

pub told_is_least : (c : Changeset) (left right : Files) (p q : Path) → unresolved c left right ≡ Some q → IsUnresolved c left right p → path_lt p q ≡ false
told_is_least c left right p q h u = holds_of (λ p. path_lt p q ≡ false) c left right p (first_least (rising (paths_of c left right)) q (IsRising-rising (paths_of c left right)) h) u

pub none_is_unresolved : (c : Changeset) (left right : Files) (p : Path) → unresolved c left right ≡ None → IsUnresolved c left right p → ⊥
none_is_unresolved c left right p h u = holds_of (λ p. ⊥) c left right p (none_first (rising (paths_of c left right)) h) u

-- ---- a file at its path

all_later : (e : Path × File) (fs gs : Files) → below_all path_cmp e.0 gs ≡ true → AllByRecursion (λ g. file_at fs g.0 ≡ Some g.1) gs → AllByRecursion (λ g. file_at (e ∷ fs) g.0 ≡ Some g.1) gs
all_later e fs [] below all = tt
all_later e fs (g ∷ gs) below all =
    (at_first g.0 e fs ∙ ap (λ b. cond b (Some e.1) (file_at fs g.0)) (apart (path_eq e.0 g.0) refl) ∙ all.0, all_later e fs gs (second_of (path_lt e.0 g.0) (below_all path_cmp e.0 gs) below) all.1)
  where
    apart : (b : Bool) → path_eq e.0 g.0 ≡ b → path_eq e.0 g.0 ≡ false
    apart true h = absurd (clash (path_lt e.0 g.0) (first_of (path_lt e.0 g.0) (below_all path_cmp e.0 gs) below) (ap (path_lt e.0) (sym (same_path e.0 g.0 h)) ∙ path_lt_irreflexive e.0))
    apart false h = h

each_at : (fs : Files) → is_sorted path_cmp fs ≡ true → AllByRecursion (λ g. file_at fs g.0 ≡ Some g.1) fs
each_at [] rises = tt
each_at (e ∷ fs) rises =
    (at_first e.0 e fs ∙ ap (λ b. cond b (Some e.1) (file_at fs e.0)) (path_eq_itself e.0), all_later e fs fs (first_of (below_all path_cmp e.0 fs) (is_sorted path_cmp fs) rises) (each_at fs (second_of (below_all path_cmp e.0 fs) (is_sorted path_cmp fs) rises)))

pub file_there : (fs : Files) (e : Path × File) → is_sorted path_cmp fs ≡ true → Contains fs e → file_at fs e.0 ≡ Some e.1
file_there fs e rises c = each_of (λ g. file_at fs g.0 ≡ Some g.1) fs e (each_at fs rises) c

pub there_of : (fs : Files) (p : Path) (f : File) → file_at fs p ≡ Some f → Contains fs (p, f)
there_of [] p f h = absurd cc
there_of (e ∷ fs) p f h = by (there_of fs p f) (path_eq e.0 p) refl (sym (at_first p e fs) ∙ h)
  where
    by : (file_at fs p ≡ Some f → Contains fs (p, f)) → (b : Bool) → path_eq e.0 p ≡ b → cond b (Some e.1) (file_at fs p) ≡ Some f → Contains (e ∷ fs) (p, f)
    by later true same h = subst (λ g. Contains (e ∷ fs) g) (λ i. (same_path e.0 p same i, same_some e.1 f h i)) (contains_head e fs)
    by later false away h = contains_tail e (p, f) fs (later h)
