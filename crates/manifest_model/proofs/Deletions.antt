-- The deletions of a past are listed by their paths, and go on from those of its first parent.
use Rattle.std.proofs.Common.{◌≡◌, Bool, true, false, cond, ◌||◌, ◌&&◌, T, List, [], ◌∷◌, ◌++◌, map, refl, sym, ap, ◌∙◌}
use Rattle.std.specs.Prelude.{Option, None, Some, filter_map, flat_map, is_none, is_some, option_map}
use mathlib.Core.Bool.{true≢false}
use Rattle.std.specs.List.{AllByRecursion, cons_option, list_any}
use Rattle.std.specs.Option.{option_and_then, option_or}
use Rattle.std.specs.Ordering.{eq_by_cmp}
use Rattle.std.specs.FinMap.{find as find_key, is_sorted}
use Rattle.std.specs.FinMap.Entries.{below_all, is_some-find, same_entries}
use Rattle.std.proofs.lemmas.List.Folds.{list_any-append}
use Rattle.byte_fields.specs.Bytes.{Id}
use Rattle.changeset_model.specs.Path.{IsRising, Path, path_cmp, path_lt, rising}
use Rattle.changeset_model.proofs.Paths.{path_cmp-IsAntisymmetric, path_cmp_total}
use Rattle.changeset_model.proofs.Rising.{IsRising-rising, touched_paths_rise}
use Rattle.changeset_model.specs.Changeset.{Changeset, File, FileChange, change_at, file_of, set_at, touched_paths}
use Rattle.history_model.specs.History.{Known}
use Rattle.history_model.specs.Past.{At, Begin, Past, changesets_of}
use Rattle.history_model.specs.Tree.{decides, file_at, files_in, is_file, tree_of}
use Rattle.history_model.proofs.Landings.{or_left, or_true}
use Rattle.manifest_model.specs.Deleted.{deleted_at, deletions, gone_at, gone_on, last_deletion}
use Rattle.manifest_model.proofs.Derivations.{among, rising_has, tied_same}
use Rattle.manifest_model.proofs.Links.{none_some, found_in as file_found}

-- ---- what is found of a list by paths

abbrev find_with : Bool → Option Id → Option Id → Option Id
find_with b None found = found
find_with b (Some x) found = cond b (Some x) found

find_first : (p q : Path) (o : Option Id) (rest : List (Path × Id)) → find_key path_cmp p (cons_option (option_map (λ x. (q, x)) o) rest) ≡ find_with (eq_by_cmp path_cmp p q) o (find_key path_cmp p rest)
find_first p q None rest = refl
find_first p q (Some x) rest = refl

none_either : (m : Bool) (o : Option Id) → o ≡ None → cond m o None ≡ o
none_either true o e = refl
none_either false o e = sym e

found_by : (g : Path → Option Id) (p q : Path) (found : Option Id) (m : Bool) → found ≡ cond m (g p) None → (b : Bool) → eq_by_cmp path_cmp p q ≡ b → (o : Option Id) → g q ≡ o → find_with b o found ≡ cond (b || m) (g p) None
found_by g p q found m later true e (Some x) at = sym (ap g (tied_same p q e) ∙ at)
found_by g p q found m later true e None at = later ∙ none_either m (g p) (ap g (tied_same p q e) ∙ at)
found_by g p q found m later false e (Some x) at = later
found_by g p q found m later false e None at = later

found_in : (g : Path → Option Id) (p : Path) (qs : List Path) → find_key path_cmp p (filter_map (λ q. option_map (λ x. (q, x)) (g q)) qs) ≡ cond (among p qs) (g p) None
found_in g p [] = refl
found_in g p (q ∷ qs) =
    find_first p q (g q) (filter_map (λ q. option_map (λ x. (q, x)) (g q)) qs)
    ∙ found_by g p q (find_key path_cmp p (filter_map (λ q. option_map (λ x. (q, x)) (g q)) qs)) (among p qs) (found_in g p qs) (eq_by_cmp path_cmp p q) refl (g q) refl

-- ---- a path that was a file was set by some changeset

abbrev keys : Changeset → List Path
keys c = map (λ e. e.0) c.changes

abbrev touches : Path → List Changeset → Bool
touches p cs = list_any (λ c. among p (keys c)) cs

touches_among : (p : Path) (cs : List Changeset) → among p (flat_map (λ c. map (λ e. e.0) c.changes) cs) ≡ touches p cs
touches_among p [] = refl
touches_among p (c ∷ cs) =
    list_any-append (eq_by_cmp path_cmp p) (keys c) (flat_map (λ c. map (λ e. e.0) c.changes) cs) ∙ ap (λ b. among p (keys c) || b) (touches_among p cs)

set_some : (o : Option FileChange) (f : File) → option_and_then file_of o ≡ Some f → is_some o ≡ true
set_some None f h = absurd (none_some f h)
set_some (Some c) f h = refl

set_touches : (c : Changeset) (p : Path) (f : File) → set_at c p ≡ Some f → among p (keys c) ≡ true
set_touches c p f h = sym (is_some-find path_cmp p c.changes) ∙ set_some (change_at c p) f h

module _ (c : Known) (first second : Past) (p : Path) where
  abbrev by_first : Bool
  by_first = touches p (changesets_of first)

  abbrev by_second : Bool
  by_second = touches p (changesets_of second)

  abbrev itself : Bool
  itself = among p (keys c.changeset) || false

  touches_past : touches p (changesets_of (At c first second)) ≡ ((by_first || by_second) || itself)
  touches_past =
      list_any-append (λ c. among p (keys c)) (changesets_of first ++ changesets_of second) (c.changeset ∷ [])
      ∙ ap (λ b. b || itself) (list_any-append (λ c. among p (keys c)) (changesets_of first) (changesets_of second))

  abbrev Touched : Past → Type 0
  Touched past = (g : File) → tree_of past p ≡ Some g → touches p (changesets_of past) ≡ true

  of_parent : Touched first → Touched second → (f : File) (o : Option File) → tree_of first p ≡ o → option_or o (tree_of second p) ≡ Some f → ((by_first || by_second) || itself) ≡ true
  of_parent one two f (Some g) at e = or_left (by_first || by_second) itself (or_left by_first by_second (one g at))
  of_parent one two f None at e = or_left (by_first || by_second) itself (or_true by_first by_second (two f e))

  of_file : Touched first → Touched second → (f : File) (b : Bool) → cond b (set_at c.changeset p) (option_or (tree_of first p) (tree_of second p)) ≡ Some f → ((by_first || by_second) || itself) ≡ true
  of_file one two f true e = or_true (by_first || by_second) itself (or_left (among p (keys c.changeset)) false (set_touches c.changeset p f e))
  of_file one two f false e = of_parent one two f (tree_of first p) refl e

  of_deletion : Touched first → (x : Id) → (last_deletion first p ≡ Some x → by_first ≡ true) → (o : Option File) → tree_of first p ≡ o → cond (is_some o && is_none (tree_of (At c first second) p)) (Some c.id) (last_deletion first p) ≡ Some x → by_first ≡ true
  of_deletion one x later (Some g) at e = one g at
  of_deletion one x later None at e = later e

file_touched : (past : Past) (p : Path) (f : File) → tree_of past p ≡ Some f → touches p (changesets_of past) ≡ true
file_touched Begin p f e = absurd (none_some f e)
file_touched (At c first second) p f e = touches_past c first second p ∙ of_file c first second p (file_touched first p) (file_touched second p) f (decides c.changeset p) e

no_deletion : (x : Id) → ◌≡◌ {A = Option Id} None (Some x) → ⊥
no_deletion x e = absurd cc

deletion_touched : (past : Past) (p : Path) (x : Id) → last_deletion past p ≡ Some x → touches p (changesets_of past) ≡ true
deletion_touched Begin p x e = absurd (no_deletion x e)
deletion_touched (At c first second) p x e =
    touches_past c first second p
    ∙ or_left (by_first c first second p || by_second c first second p) (itself c first second p)
    (or_left (by_first c first second p) (by_second c first second p) (of_deletion c first second p (file_touched first p) x (deletion_touched first p x) (tree_of first p) refl e))

-- ---- the deletions

deleted_last : (past : Past) (p : Path) (x : Id) (o : Option File) → cond (is_some o) None (last_deletion past p) ≡ Some x → last_deletion past p ≡ Some x
deleted_last past p x None e = e
deleted_last past p x (Some f) e = absurd (no_deletion x e)

nothing_by : (past : Past) (p : Path) (b : Bool) → among p (touched_paths (changesets_of past)) ≡ b → (o : Option Id) → deleted_at past p ≡ o → cond b (deleted_at past p) None ≡ deleted_at past p
nothing_by past p true e o at = refl
nothing_by past p false e None at = sym at
nothing_by past p false e (Some x) at =
    let touched = deletion_touched past p x (deleted_last past p x (tree_of past p) at) in
    absurd (true≢false (sym (rising_has p (flat_map (λ c. map (λ e. e.0) c.changes) (changesets_of past)) (touches_among p (changesets_of past) ∙ touched)) ∙ e))

pub deletion_found : (past : Past) (p : Path) → find_key path_cmp p (deletions past) ≡ deleted_at past p
deletion_found past p = found_in (deleted_at past) p (touched_paths (changesets_of past)) ∙ nothing_by past p (among p (touched_paths (changesets_of past))) refl (deleted_at past p) refl

-- ---- one changeset more

pub none_where_there : (c : Known) (first second : Past) (p : Path) (f : File) → tree_of (At c first second) p ≡ Some f → deleted_at (At c first second) p ≡ None
none_where_there c first second p f there = ap (λ here. cond (is_some here) None (last_deletion (At c first second) p)) there

pub gone_by_it : (c : Known) (first second : Past) (p : Path) (f : File) → tree_of (At c first second) p ≡ None → tree_of first p ≡ Some f → deleted_at (At c first second) p ≡ Some c.id
gone_by_it c first second p f gone was = λ i. cond (is_some (gone i)) None (cond (is_some (was i) && is_none (gone i)) (Some c.id) (last_deletion first p))

pub gone_before : (c : Known) (first second : Past) (p : Path) → tree_of (At c first second) p ≡ None → tree_of first p ≡ None → deleted_at (At c first second) p ≡ deleted_at first p
gone_before c first second p gone was =
    (λ i. cond (is_some (gone i)) None (cond (is_some (was i) && is_none (gone i)) (Some c.id) (last_deletion first p))) ∙ sym (ap (λ before. cond (is_some before) None (last_deletion first p)) was)

-- ---- the deletions rise

listed_below : (t : Path → Option Id) (p : Path) (qs : List Path) → AllByRecursion (λ q. path_lt p q ≡ true) qs → below_all path_cmp p (filter_map (λ q. option_map (λ x. (q, x)) (t q)) qs) ≡ true
listed_below t p [] all = refl
listed_below t p (q ∷ qs) all = by (t q) (listed_below t p qs all.1)
  where
    by : (o : Option Id) → below_all path_cmp p (filter_map (λ q. option_map (λ x. (q, x)) (t q)) qs) ≡ true → below_all path_cmp p (cons_option (option_map (λ x. (q, x)) o) (filter_map (λ q. option_map (λ x. (q, x)) (t q)) qs)) ≡ true
    by None h = h
    by (Some x) h = λ i. all.0 i && h i

pub listed_rise : (t : Path → Option Id) (ps : List Path) → IsRising ps → is_sorted path_cmp (filter_map (λ q. option_map (λ x. (q, x)) (t q)) ps) ≡ true
listed_rise t [] rises = refl
listed_rise t (p ∷ ps) rises = by (t p) (listed_below t p ps rises.0) (listed_rise t ps rises.1)
  where
    by : (o : Option Id) → below_all path_cmp p (filter_map (λ q. option_map (λ x. (q, x)) (t q)) ps) ≡ true → is_sorted path_cmp (filter_map (λ q. option_map (λ x. (q, x)) (t q)) ps) ≡ true → is_sorted path_cmp (cons_option (option_map (λ x. (p, x)) o) (filter_map (λ q. option_map (λ x. (q, x)) (t q)) ps)) ≡ true
    by None h g = g
    by (Some x) h g = λ i. h i && g i

pub deletions_rise : (past : Past) → is_sorted path_cmp (deletions past) ≡ true
deletions_rise past = listed_rise (deleted_at past) (touched_paths (changesets_of past)) (touched_paths_rise (changesets_of past))

is_so : (b : Bool) → b ≡ true → T b
is_so true h = tt
is_so false h = absurd (true≢false (sym h))

pub same_gone : (xs ys : List (Path × Id)) → is_sorted path_cmp xs ≡ true → is_sorted path_cmp ys ≡ true → ((p : Path) → find_key path_cmp p xs ≡ find_key path_cmp p ys) → xs ≡ ys
same_gone xs ys h g e = same_entries path_cmp path_cmp_total path_cmp-IsAntisymmetric xs ys (is_so (is_sorted path_cmp xs) h) (is_so (is_sorted path_cmp ys) g) e

-- ---- the files of a past

file_nothing : (past : Past) (p : Path) (b : Bool) → among p (touched_paths (changesets_of past)) ≡ b → (o : Option File) → tree_of past p ≡ o → cond b (tree_of past p) None ≡ tree_of past p
file_nothing past p true e o at = refl
file_nothing past p false e None at = sym at
file_nothing past p false e (Some f) at =
    absurd (true≢false (sym (rising_has p (flat_map (λ c. map (λ e. e.0) c.changes) (changesets_of past)) (touches_among p (changesets_of past) ∙ file_touched past p f at)) ∙ e))

-- are those of its tree
pub file_at-files_in : (past : Past) (p : Path) → file_at (files_in past) p ≡ tree_of past p
file_at-files_in past p = file_found (tree_of past) p (touched_paths (changesets_of past)) ∙ file_nothing past p (among p (touched_paths (changesets_of past))) refl (tree_of past p) refl

-- ---- from the first parent's alone

module _ (x : Id) (now before : List (Path × File)) (gone : List (Path × Id)) (p : Path) where
  abbrev were : List Path
  were = map (λ f. f.0) before ++ map (λ e. e.0) gone

  was_here : is_file before p ≡ true → among p were ≡ true
  was_here h = list_any-append (eq_by_cmp path_cmp p) (map (λ f. f.0) before) (map (λ e. e.0) gone) ∙ or_left (among p (map (λ f. f.0) before)) (among p (map (λ e. e.0) gone)) (sym (is_some-find path_cmp p before) ∙ h)

  was_gone : is_some (find_key path_cmp p gone) ≡ true → among p were ≡ true
  was_gone h = list_any-append (eq_by_cmp path_cmp p) (map (λ f. f.0) before) (map (λ e. e.0) gone) ∙ or_true (among p (map (λ f. f.0) before)) (among p (map (λ e. e.0) gone)) (sym (is_some-find path_cmp p gone) ∙ h)

  were_by : (a b : Bool) → is_file before p ≡ b → (y : Id) → cond a None (cond b (Some x) (find_key path_cmp p gone)) ≡ Some y → among p were ≡ true
  were_by true b was y e = absurd (no_deletion y e)
  were_by false true was y e = was_here was
  were_by false false was y e = was_gone (ap is_some e)

  only_were : (b : Bool) → among p (rising were) ≡ b → (o : Option Id) → gone_at x now before gone p ≡ o → cond b (gone_at x now before gone p) None ≡ gone_at x now before gone p
  only_were true e o at = refl
  only_were false e None at = sym at
  only_were false e (Some y) at = absurd (true≢false (sym (rising_has p were (were_by (is_file now p) (is_file before p) refl y at)) ∙ e))

  gone_found : find_key path_cmp p (gone_on x now before gone) ≡ gone_at x now before gone p
  gone_found = found_in (gone_at x now before gone) p (rising were) ∙ only_were (among p (rising were)) refl (gone_at x now before gone p) refl

as_deleted : (x : Id) (now before : Option File) (last : Option Id) → cond (is_some now) None (cond (is_some before) (Some x) (cond (is_some before) None last)) ≡ cond (is_some now) None (cond (is_some before && is_none now) (Some x) last)
as_deleted x (Some f) before last = refl
as_deleted x None (Some g) last = refl
as_deleted x None None last = refl

gone_is_deleted : (c : Known) (first second : Past) (p : Path) → gone_at c.id (files_in (At c first second)) (files_in first) (deletions first) p ≡ deleted_at (At c first second) p
gone_is_deleted c first second p =
    (λ i. cond (is_some (file_at-files_in (At c first second) p i)) None (cond (is_some (file_at-files_in first p i)) (Some c.id) (deletion_found first p i)))
    ∙ as_deleted c.id (tree_of (At c first second) p) (tree_of first p) (last_deletion first p)

pub deletions_go_on : (c : Known) (first second : Past) → gone_on c.id (files_in (At c first second)) (files_in first) (deletions first) ≡ deletions (At c first second)
deletions_go_on c first second =
    let now = files_in (At c first second) in
    let before = files_in first in
    let gone = deletions first in
    same_gone (gone_on c.id now before gone) (deletions (At c first second))
    (listed_rise (gone_at c.id now before gone) (rising (map (λ f. f.0) before ++ map (λ e. e.0) gone)) (IsRising-rising (map (λ f. f.0) before ++ map (λ e. e.0) gone)))
    (deletions_rise (At c first second))
    (λ p. gone_found c.id now before gone p ∙ gone_is_deleted c first second p ∙ sym (deletion_found (At c first second) p))
