-- The files of a tree with its past.
use Rattle.std.proofs.Common.{◌≡◌, Bool, true, false, cond, ◌||◌, Option, Some, None, List, [], ◌∷◌, ◌++◌, map, refl, sym, ap, ◌∙◌}
use Rattle.std.specs.Prelude.{option_map, filter_map, flat_map}
use Rattle.std.specs.List.{list_any, AllByRecursion, cons_option}
use Rattle.std.specs.Option.{option_and_then, option_or}
use Rattle.std.specs.FinMap.{is_sorted, find as find_key}
use Rattle.std.specs.FinMap.Entries.{below_all}
use Rattle.byte_fields.proofs.Lists.{both_parts}
use Rattle.changeset_model.specs.Path.{Path, path_cmp, path_lt, path_eq, IsRising}
use Rattle.changeset_model.specs.Changeset as model
use Rattle.changeset_model.proofs.Rising.{from_rising, touched_paths_rise}
use Rattle.history_model.specs.History.{Known}
use Rattle.history_model.specs.Past.{Past, Begin, At, changesets_of}
use Rattle.history_model.specs.Tree.{decides, tree_of, files_in, file_at}
use Rattle.repo_path.specs.Order.{path_eq_ties}
use Rattle.tree_fold.proofs.Files.{same_path}
use Rattle.tree_fold.proofs.Trees.{both, same_files}

abbrev Files : Type 0
Files = List (Path × model.File)

-- ---- the files of a function of paths

abbrev filed : (Path → Option model.File) → List Path → Files
filed t ps = filter_map (λ p. option_map (λ f. (p, f)) (t p)) ps

below_by : (p q : Path) (fs : Files) → path_lt p q ≡ true → below_all path_cmp p fs ≡ true → (o : Option model.File) → below_all path_cmp p (cons_option (option_map (λ f. (q, f)) o) fs) ≡ true
below_by p q fs h g None = g
below_by p q fs h g (Some f) = both (path_lt p q) (below_all path_cmp p fs) h g

below_filed : (t : Path → Option model.File) (p : Path) (ps : List Path) → AllByRecursion (λ q. path_lt p q ≡ true) ps → below_all path_cmp p (filed t ps) ≡ true
below_filed t p [] all = refl
below_filed t p (q ∷ ps) all = below_by p q (filed t ps) all.0 (below_filed t p ps all.1) (t q)

filed_by : (q : Path) (fs : Files) → below_all path_cmp q fs ≡ true → is_sorted path_cmp fs ≡ true → (o : Option model.File) → is_sorted path_cmp (cons_option (option_map (λ f. (q, f)) o) fs) ≡ true
filed_by q fs h g None = g
filed_by q fs h g (Some f) = both (below_all path_cmp q fs) (is_sorted path_cmp fs) h g

filed_sorted : (t : Path → Option model.File) (ps : List Path) → IsRising ps → is_sorted path_cmp (filed t ps) ≡ true
filed_sorted t [] rises = refl
filed_sorted t (q ∷ ps) rises = filed_by q (filed t ps) (below_filed t q ps rises.0) (filed_sorted t ps rises.1) (t q)

abbrev is_among : Path → List Path → Bool
is_among p ps = list_any (path_eq p) ps

at_filed_by : (t : Path → Option model.File) (p q : Path) (fs : Files) (among : Bool) → file_at fs p ≡ cond among (t p) None → (o : Option model.File) → t q ≡ o → (b : Bool) → path_eq p q ≡ b → file_at (cons_option (option_map (λ f. (q, f)) o) fs) p ≡ cond (b || among) (t p) None
at_filed_by t p q fs among ih None e true same = ih ∙ none among (t p) (ap t (same_path p q same) ∙ e)
  where
    none : (b : Bool) (o : Option model.File) → o ≡ None → cond b o None ≡ o
    none true o h = refl
    none false o h = sym h
at_filed_by t p q fs among ih None e false away = ih
at_filed_by t p q fs among ih (Some f) e true same = ap (λ b. cond b (Some f) (file_at fs p)) (sym (path_eq_ties p q) ∙ same) ∙ sym (ap t (same_path p q same) ∙ e)
at_filed_by t p q fs among ih (Some f) e false away = ap (λ b. cond b (Some f) (file_at fs p)) (sym (path_eq_ties p q) ∙ away) ∙ ih

file_at-filed : (t : Path → Option model.File) (p : Path) (ps : List Path) → file_at (filed t ps) p ≡ cond (is_among p ps) (t p) None
file_at-filed t p [] = refl
file_at-filed t p (q ∷ ps) = at_filed_by t p q (filed t ps) (is_among p ps) (file_at-filed t p ps) (t q) refl (path_eq p q) refl

-- ---- the files of a past

away_change : (p : Path) (es : List (Path × model.FileChange)) → AllByRecursion (λ q. path_eq p q ≡ false) (map (λ e. e.0) es) → find_key path_cmp p es ≡ None
away_change p [] all = refl
away_change p (e ∷ es) all = ap (λ b. cond b (Some e.1) (find_key path_cmp p es)) (sym (path_eq_ties p e.0) ∙ all.0) ∙ away_change p es all.1

abbrev touched : List model.Changeset → List Path
touched cs = flat_map (λ c. map (λ e. e.0) c.changes) cs

both_away : (P : Path → Type 0) (cs ds : List model.Changeset) → AllByRecursion P (touched (cs ++ ds)) → AllByRecursion P (touched cs) × AllByRecursion P (touched ds)
both_away P [] ds all = (tt, all)
both_away P (c ∷ cs) ds all =
    let parts = both_parts P (map (λ e. e.0) c.changes) (touched (cs ++ ds)) all in
    let rest = both_away P cs ds parts.1 in
    (each P (map (λ e. e.0) c.changes) (touched cs) parts.0 rest.0, rest.1)
  where
    each : (P : Path → Type 0) (xs ys : List Path) → AllByRecursion P xs → AllByRecursion P ys → AllByRecursion P (xs ++ ys)
    each P [] ys all more = more
    each P (x ∷ xs) ys all more = (all.0, each P xs ys all.1 more)

untouched : (p : Path) (past : Past) → AllByRecursion (λ q. path_eq p q ≡ false) (touched (changesets_of past)) → tree_of past p ≡ None
untouched p Begin all = refl
untouched p (At k first second) all =
    let last = both_away (λ q. path_eq p q ≡ false) (changesets_of first ++ changesets_of second) (k.changeset ∷ []) all in
    let sides = both_away (λ q. path_eq p q ≡ false) (changesets_of first) (changesets_of second) last.0 in
    let here = both_parts (λ q. path_eq p q ≡ false) (map (λ e. e.0) k.changeset.changes) [] last.1 in
    let none : model.set_at k.changeset p ≡ None = ap (option_and_then model.file_of) (away_change p k.changeset.changes here.0) in
    (λ i. cond (decides k.changeset p) (none i) (option_or (untouched p first sides.0 i) (untouched p second sides.1 i))) ∙ same (decides k.changeset p)
  where
    same : (b : Bool) → ◌≡◌ {A = Option model.File} (cond b None None) None
    same true = refl
    same false = refl

none_among : (p : Path) (ps : List Path) → is_among p ps ≡ false → AllByRecursion (λ q. path_eq p q ≡ false) ps
none_among p [] h = tt
none_among p (q ∷ ps) h = let parts = by (path_eq p q) (is_among p ps) h in (parts.0, none_among p ps parts.1)
  where
    by : (a b : Bool) → (a || b) ≡ false → (a ≡ false) × (b ≡ false)
    by true b h = absurd (cc)
    by false b h = (refl, h)

-- at each path they are the tree
pub file_at-files_in : (past : Past) (p : Path) → file_at (files_in past) p ≡ tree_of past p
file_at-files_in past p = file_at-filed (tree_of past) p (model.touched_paths (changesets_of past)) ∙ by (is_among p (model.touched_paths (changesets_of past))) refl
  where
    by : (b : Bool) → is_among p (model.touched_paths (changesets_of past)) ≡ b → cond b (tree_of past p) None ≡ tree_of past p
    by true e = refl
    by false e = sym (untouched p past (from_rising (λ q. path_eq p q ≡ false) (touched (changesets_of past)) (none_among p (model.touched_paths (changesets_of past)) e)))

pub files_in_sorted : (past : Past) → is_sorted path_cmp (files_in past) ≡ true
files_in_sorted past = filed_sorted (tree_of past) (model.touched_paths (changesets_of past)) (touched_paths_rise (changesets_of past))

-- what a changeset makes of the trees of its parents
pub files_in-merged : (k : Known) (left right : Past) (flat first second : Files) → is_sorted path_cmp flat ≡ true → first ≡ files_in left → second ≡ files_in right
    → ((p : Path) → file_at flat p ≡ cond (decides k.changeset p) (model.set_at k.changeset p) (option_or (file_at first p) (file_at second p))) → flat ≡ files_in (At k left right)
files_in-merged k left right flat first second rises is_left is_right at =
    same_files flat (files_in (At k left right)) rises (files_in_sorted (At k left right))
    (λ p. at p
    ∙ (λ i. cond (decides k.changeset p) (model.set_at k.changeset p) (option_or ((ap (λ fs. file_at fs p) is_left ∙ file_at-files_in left p) i) ((ap (λ fs. file_at fs p) is_right ∙ file_at-files_in right p) i)))
    ∙ sym (file_at-files_in (At k left right) p))
