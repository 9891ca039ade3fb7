-- The files of a tree, and the tree of a chain by its files.
use Rattle.std.proofs.Common.{◌≡◌, Bor, Bool, true, false, cond, ◌&&◌, ◌||◌, Option, Some, None, List, [], ◌∷◌, ◌++◌, map, refl, sym, ap, ◌∙◌}
use Rattle.std.specs.Prelude.{T, option_map, filter_map, flat_map}
use Rattle.std.specs.List.{list_any, AllByRecursion, cons_option}
use Rattle.std.specs.List.Sorted.{IsStrictlySortedBy}
use Rattle.std.specs.Option.{option_and_then, option_copied}
use Rattle.std.specs.Ordering.{is_lt}
use Rattle.std.specs.Map.{keys_of, lookup}
use Rattle.std.specs.BTreeMap.{BTreeMap, get, is_at}
use Rattle.std.specs.FinMap.{is_sorted, find as find_key}
use Rattle.std.specs.FinMap.Entries.{below_all, same_entries}
use Rattle.std.specs.declared.cmp.Ordering.TheVariants.{Less}
use Rattle.std.proofs.lemmas.Map.Keys.{sorted_head, sorted_tail}
use Rattle.byte_fields.proofs.Lists.{both_parts}
use Rattle.changeset_model.specs.Path.{Path, path_cmp, path_lt, path_eq, IsRising}
use Rattle.changeset_model.specs.Changeset as model
use Rattle.changeset_model.proofs.Paths.{path_cmp_total, path_cmp-IsAntisymmetric}
use Rattle.changeset_model.proofs.Rising.{from_rising, touched_paths_rise}
use Rattle.history_model.specs.Tree.{decides_at, decides, tree, files, file_at}
use Rattle.history_model.proofs.Trees.{tree-append}
use Rattle.repo_path.specs.Order.{path_eq_ties}
use Rattle.tree_fold.specs.declared.file.File.{File}
use Rattle.tree_fold.specs.View.{file_view, files_view}
use Rattle.tree_fold.specs.Fold.{file_in}
use Rattle.tree_fold.proofs.Files.{same_path}
use Rattle.repo_path.proofs.Faults.{first_of_two as first_of, second_of_two as second_of}

abbrev Files : Type 0
Files = List (Path × model.File)

-- ---- what contracts see of the files

map_cond : {A B : Type 0} (f : A → B) (b : Bool) (x : A) (o : Option A) → cond b (Some (f x)) (option_map f o) ≡ option_map f (cond b (Some x) o)
map_cond f true x o = refl
map_cond f false x o = refl

pub file_at-view : (es : List (Path × File)) (p : Path) → file_at (files_view es) p ≡ option_map file_view (lookup (is_at (path_cmp p)) es)
file_at-view [] p = refl
file_at-view (e ∷ es) p = ap (cond (is_at (path_cmp p) e.0) (Some (file_view e.1))) (file_at-view es p) ∙ map_cond file_view (is_at (path_cmp p) e.0) e.1 (lookup (is_at (path_cmp p)) es)

pub both : (a b : Bool) → a ≡ true → b ≡ true → (a && b) ≡ true
both a b h g = (λ i. h i && g i)

below_view : (p : Path) (es : List (Path × File)) → AllByRecursion (λ q. path_cmp p q ≡ Less) (keys_of es) → below_all path_cmp p (files_view es) ≡ true
below_view p [] all = refl
below_view p (e ∷ es) all = both (path_lt p e.0) (below_all path_cmp p (files_view es)) (ap is_lt all.0) (below_view p es all.1)

pub view_sorted : (es : List (Path × File)) → IsStrictlySortedBy path_cmp (keys_of es) → is_sorted path_cmp (files_view es) ≡ true
view_sorted [] rises = refl
view_sorted (e ∷ es) rises =
    both (below_all path_cmp e.0 (files_view es)) (is_sorted path_cmp (files_view es)) (below_view e.0 es (sorted_head path_cmp e.0 (keys_of es) rises)) (view_sorted es (sorted_tail path_cmp e.0 (keys_of es) rises))

-- ---- equal files

-- files by rising paths are told by the file at each path
pub same_files : (fs gs : Files) → is_sorted path_cmp fs ≡ true → is_sorted path_cmp gs ≡ true → ((p : Path) → file_at fs p ≡ file_at gs p) → fs ≡ gs
same_files fs gs rises other is = same_entries path_cmp path_cmp_total path_cmp-IsAntisymmetric fs gs (holds _ rises) (holds _ other) is
  where
    holds : (b : Bool) → b ≡ true → T b
    holds true h = tt
    holds false h = absurd (cc)

all_below : (p : Path) (fs : Files) → AllByRecursion (λ q. path_lt p q ≡ true) (map (λ f. f.0) fs) → below_all path_cmp p fs ≡ true
all_below p [] all = refl
all_below p (f ∷ fs) all = both (path_lt p f.0) (below_all path_cmp p fs) all.0 (all_below p fs all.1)

below_each : (p : Path) (fs : Files) → below_all path_cmp p fs ≡ true → AllByRecursion (λ q. path_lt p q ≡ true) (map (λ f. f.0) fs)
below_each p [] h = tt
below_each p (f ∷ fs) h = (first_of (path_lt p f.0) (below_all path_cmp p fs) h, below_each p fs (second_of (path_lt p f.0) (below_all path_cmp p fs) h))

pub sorted_rising : (fs : Files) → IsRising (map (λ f. f.0) fs) → is_sorted path_cmp fs ≡ true
sorted_rising [] rises = refl
sorted_rising (f ∷ fs) rises = both (below_all path_cmp f.0 fs) (is_sorted path_cmp fs) (all_below f.0 fs rises.0) (sorted_rising fs rises.1)

pub rising_sorted : (fs : Files) → is_sorted path_cmp fs ≡ true → IsRising (map (λ f. f.0) fs)
rising_sorted [] h = tt
rising_sorted (f ∷ fs) h = (below_each f.0 fs (first_of (below_all path_cmp f.0 fs) (is_sorted path_cmp fs) h), rising_sorted fs (second_of (below_all path_cmp f.0 fs) (is_sorted path_cmp fs) h))

-- ---- the files of a function of paths

abbrev filed : (Path → Option model.File) → List Path → Files
filed t ps = filter_map (λ p. option_map (λ f. (p, f)) (t p)) ps

below_by : (p q : Path) (fs : Files) → path_lt p q ≡ true → below_all path_cmp p fs ≡ true → (o : Option model.File) → below_all path_cmp p (cons_option (option_map (λ f. (q, f)) o) fs) ≡ true
below_by p q fs h g None = g
below_by p q fs h g (Some f) = both (path_lt p q) (below_all path_cmp p fs) h g

below_filed : (t : Path → Option model.File) (p : Path) (ps : List Path) → AllByRecursion (λ q. path_lt p q ≡ true) ps → below_all path_cmp p (filed t ps) ≡ true
below_filed t p [] all = refl
below_filed t p (q ∷ ps) all = below_by p q (filed t ps) all.0 (below_filed t p ps all.1) (t q)

filed_by : (q : Path) (fs : Files) → below_all path_cmp q fs ≡ true → is_sorted path_cmp fs ≡ true → (o : Option model.File) → is_sorted path_cmp (cons_option (option_map (λ f. (q, f)) o) fs) ≡ true
filed_by q fs h g None = g
filed_by q fs h g (Some f) = both (below_all path_cmp q fs) (is_sorted path_cmp fs) h g

filed_sorted : (t : Path → Option model.File) (ps : List Path) → IsRising ps → is_sorted path_cmp (filed t ps) ≡ true
filed_sorted t [] rises = refl
filed_sorted t (q ∷ ps) rises = filed_by q (filed t ps) (below_filed t q ps rises.0) (filed_sorted t ps rises.1) (t q)

abbrev is_among : Path → List Path → Bool
is_among p ps = list_any (path_eq p) ps

at_filed_by : (t : Path → Option model.File) (p q : Path) (fs : Files) (among : Bool) → file_at fs p ≡ cond among (t p) None → (o : Option model.File) → t q ≡ o → (b : Bool) → path_eq p q ≡ b → file_at (cons_option (option_map (λ f. (q, f)) o) fs) p ≡ cond (b || among) (t p) None
at_filed_by t p q fs among ih None e true same = ih ∙ none among (t p) (ap t (same_path p q same) ∙ e)
  where
    none : (b : Bool) (o : Option model.File) → o ≡ None → cond b o None ≡ o
    none true o h = refl
    none false o h = sym h
at_filed_by t p q fs among ih None e false away = ih
at_filed_by t p q fs among ih (Some f) e true same = ap (λ b. cond b (Some f) (file_at fs p)) (sym (path_eq_ties p q) ∙ same) ∙ sym (ap t (same_path p q same) ∙ e)
at_filed_by t p q fs among ih (Some f) e false away = ap (λ b. cond b (Some f) (file_at fs p)) (sym (path_eq_ties p q) ∙ away) ∙ ih

file_at-filed : (t : Path → Option model.File) (p : Path) (ps : List Path) → file_at (filed t ps) p ≡ cond (is_among p ps) (t p) None
file_at-filed t p [] = refl
file_at-filed t p (q ∷ ps) = at_filed_by t p q (filed t ps) (is_among p ps) (file_at-filed t p ps) (t q) refl (path_eq p q) refl

-- ---- the files of a chain

away_change : (p : Path) (es : List (Path × model.FileChange)) → AllByRecursion (λ q. path_eq p q ≡ false) (map (λ e. e.0) es) → find_key path_cmp p es ≡ None
away_change p [] all = refl
away_change p (e ∷ es) all = ap (λ b. cond b (Some e.1) (find_key path_cmp p es)) (sym (path_eq_ties p e.0) ∙ all.0) ∙ away_change p es all.1

tree_one : (c : model.Changeset) (p : Path) → tree (c ∷ []) p ≡ cond (decides c p) (model.set_at c p) None
tree_one c p = elim (decides c p) as (λ b. option_and_then (λ c. model.set_at c p) (cond b (Some c) None) ≡ cond b (model.set_at c p) None) [ true ↦ refl | false ↦ refl ]

pub tree-one-more : (cs : List model.Changeset) (c : model.Changeset) (p : Path) → tree (cs ++ c ∷ []) p ≡ cond (decides c p) (model.set_at c p) (tree cs p)
tree-one-more cs c p = tree-append cs (c ∷ []) p ∙ ap (λ o. cond (decides c p || false) o (tree cs p)) (tree_one c p) ∙ by (decides c p) (model.set_at c p) (tree cs p)
  where
    by : (b : Bool) (x o : Option model.File) → cond (b || false) (cond b x None) o ≡ cond b x o
    by true x o = refl
    by false x o = refl

abbrev none_file : Option model.File
none_file = None

untouched : (p : Path) (cs : List model.Changeset) → AllByRecursion (λ q. path_eq p q ≡ false) (flat_map (λ c. map (λ e. e.0) c.changes) cs) → tree cs p ≡ None
untouched p [] all = refl
untouched p (c ∷ cs) all =
    let parts = both_parts (λ q. path_eq p q ≡ false) (map (λ e. e.0) c.changes) (flat_map (λ c. map (λ e. e.0) c.changes) cs) all in
    let none : model.set_at c p ≡ None = ap (option_and_then model.file_of) (away_change p c.changes parts.0) in
    tree-append (c ∷ []) cs p
    ∙ (λ i. cond (list_any (λ d. decides d p) cs) (untouched p cs parts.1 i) ((tree_one c p ∙ ap (λ o. cond (decides c p) o None) none) i))
    ∙ by (list_any (λ d. decides d p) cs) (decides c p)
  where
    by : (a b : Bool) → cond a None (cond b None None) ≡ none_file
    by true b = refl
    by false true = refl
    by false false = refl

none_among : (p : Path) (ps : List Path) → is_among p ps ≡ false → AllByRecursion (λ q. path_eq p q ≡ false) ps
none_among p [] h = tt
none_among p (q ∷ ps) h = let parts = by (path_eq p q) (is_among p ps) h in (parts.0, none_among p ps parts.1)
  where
    by : (a b : Bool) → (a || b) ≡ false → (a ≡ false) × (b ≡ false)
    by true b h = absurd (cc)
    by false b h = (refl, h)

-- at each path they are the tree
pub file_at-files : (cs : List model.Changeset) (p : Path) → file_at (files cs) p ≡ tree cs p
file_at-files cs p = file_at-filed (tree cs) p (model.touched_paths cs) ∙ by (is_among p (model.touched_paths cs)) refl
  where
    by : (b : Bool) → is_among p (model.touched_paths cs) ≡ b → cond b (tree cs p) None ≡ tree cs p
    by true e = refl
    by false e = sym (untouched p cs (from_rising (λ q. path_eq p q ≡ false) (flat_map (λ c. map (λ e. e.0) c.changes) cs) (none_among p (model.touched_paths cs) e)))

pub files_sorted : (cs : List model.Changeset) → is_sorted path_cmp (files cs) ≡ true
files_sorted cs = filed_sorted (tree cs) (model.touched_paths cs) (touched_paths_rise cs)

-- a tree to which one more changeset is applied
pub files-one-more : (old new : Files) (cs : List model.Changeset) (c : model.Changeset) → is_sorted path_cmp new ≡ true → ((p : Path) → file_at new p ≡ cond (decides c p) (model.set_at c p) (file_at old p)) → old ≡ files cs → new ≡ files (cs ++ c ∷ [])
files-one-more old new cs c rises decided is =
    same_files new (files (cs ++ c ∷ [])) rises (files_sorted (cs ++ c ∷ []))
    (λ p. decided p ∙ ap (cond (decides c p) (model.set_at c p)) (ap (λ fs. file_at fs p) is ∙ file_at-files cs p) ∙ sym (tree-one-more cs c p) ∙ sym (file_at-files (cs ++ c ∷ []) p))

-- ---- a changeset that is applied

-- what a map of files shows at a path
pub file_at-map : (m : BTreeMap Path File) (p : Path) → file_at (files_view m.entries) p ≡ file_in m p
file_at-map m p = file_at-view m.entries p

pub decided_view : (m n : BTreeMap Path File) (old : Files) (c : model.Changeset) (es : List (Path × model.FileChange)) → files_view m.entries ≡ old → es ≡ c.changes
    → ((p : Path) → file_in n p ≡ cond (list_any (λ e. decides_at e.1 e.0 p) es) (option_and_then model.file_of (find_key path_cmp p es)) (file_in m p))
    → (p : Path) → file_at (files_view n.entries) p ≡ cond (decides c p) (model.set_at c p) (file_at old p)
decided_view m n old c es view changes decided p =
    file_at-map n p ∙ decided p
    ∙ ap (λ es. cond (list_any (λ e. decides_at e.1 e.0 p) es) (option_and_then model.file_of (find_key path_cmp p es)) (file_in m p)) changes
    ∙ ap (cond (decides c p) (model.set_at c p)) (sym (file_at-map m p) ∙ ap (λ fs. file_at fs p) view)

shown : (o : Option (Bor File)) → option_map (λ f. file_view f.now) o ≡ option_map file_view (option_copied o)
shown None = refl
shown (Some f) = refl

pub file_of_map : (m : BTreeMap Path File) (fs : Files) (p : Path) (o : Option (Bor File)) → files_view m.entries ≡ fs → option_copied o ≡ get path_cmp m p → option_map (λ f. file_view f.now) o ≡ file_at fs p
file_of_map m fs p o view is = shown o ∙ ap (option_map file_view) is ∙ sym (file_at-map m p) ∙ ap (λ fs. file_at fs p) view

-- ---- two chains

-- chains with one tree have the same files
pub files_of_trees : (first second : List model.Changeset) → ((p : Path) → tree first p ≡ tree second p) → files first ≡ files second
files_of_trees first second is = same_files (files first) (files second) (files_sorted first) (files_sorted second) (λ p. file_at-files first p ∙ is p ∙ sym (file_at-files second p))
