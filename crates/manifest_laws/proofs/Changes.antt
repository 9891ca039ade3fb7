-- What a changeset leaves of the files in a directory.
use Rattle.std.proofs.Common.{◌≡◌, Bool, true, false, cond, ◌&&◌, ◌||◌, List, [], ◌∷◌, ◌++◌, refl, sym, ap, ◌∙◌}
use Rattle.std.specs.Prelude.{Option, Some, None, filter_map, bytes_eq, option_and_then, option_map}
use mathlib.Core.Bool.{true≢false}
use Rattle.std.specs.List.{AllByRecursion, list_any, cons_option}
use Rattle.std.specs.FinMap.{is_sorted}
use Rattle.std.specs.FinMap.Entries.{below_all, same_entries}
use Rattle.std.proofs.lemmas.Bool.{and_parts, or_parts, false_from_ne_true}
use Rattle.changeset_model.specs.Path.{Path, path_cmp, path_lt, path_eq, is_prefix, comparable, IsRising}
use Rattle.changeset_model.specs.Changeset.{File, FileChange, Set, Delete, Changeset, set_at, touched_paths}
use Rattle.changeset_model.proofs.Paths.{path_cmp_total, path_cmp-IsAntisymmetric}
use Rattle.changeset_model.proofs.Rising.{touched_paths_rise}
use Rattle.history_model.specs.Tree.{decides_at, decides, tree, files, file_at, below}
use Rattle.history_model.proofs.Trees.{tree-append}
use Rattle.manifest_model.proofs.Links.{file_at-files}
use Rattle.manifest_laws.specs.Changes.{reaches, is_reached}
use Rattle.manifest_laws.proofs.Under.{Files}
use Rattle.manifest_laws.proofs.Names.{same_name, name_itself, file_at-below, below_rises}
use Rattle.manifest_laws.proofs.Lists.{true_and_false, is_so}
use Rattle.manifest_model.proofs.Derivations.{or_case as or_either}

-- ---- paths

pub prefix_itself : (d q : Path) → is_prefix d (d ++ q) ≡ true
prefix_itself [] q = refl
prefix_itself (k ∷ d) q = λ i. name_itself k i && prefix_itself d q i

pub prefix_trans : (d p q : Path) → is_prefix d p ≡ true → is_prefix p q ≡ true → is_prefix d q ≡ true
prefix_trans [] p q h g = refl
prefix_trans (k ∷ d) [] q h g = absurd (true≢false (sym h))
prefix_trans (k ∷ d) (m ∷ p) [] h g = absurd (true≢false (sym g))
prefix_trans (k ∷ d) (m ∷ p) (n ∷ q) h g =
    let one = and_parts (bytes_eq k m) (is_prefix d p) h in
    let two = and_parts (bytes_eq m n) (is_prefix p q) g in
    (λ i. (ap (λ x. bytes_eq x n) (same_name k m one.0) ∙ two.0) i && prefix_trans d p q one.1 two.1 i)

-- two paths that begin a third are comparable
pub prefixes_compare : (d e p : Path) → is_prefix d p ≡ true → is_prefix e p ≡ true → comparable e d ≡ true
prefixes_compare [] [] p h g = refl
prefixes_compare [] (k ∷ e) p h g = refl
prefixes_compare (k ∷ d) [] p h g = refl
prefixes_compare (k ∷ d) (m ∷ e) [] h g = absurd (true≢false (sym h))
prefixes_compare (k ∷ d) (m ∷ e) (n ∷ p) h g =
    let one = and_parts (bytes_eq k n) (is_prefix d p) h in
    let two = and_parts (bytes_eq m n) (is_prefix e p) g in
    let same : k ≡ m = same_name k n one.0 ∙ sym (same_name m n two.0) in
    by (bytes_eq m k) (bytes_eq k m) (ap (λ x. bytes_eq m x) same ∙ name_itself m) (ap (λ x. bytes_eq x m) same ∙ name_itself m) (prefixes_compare d e p one.1 two.1)
  where
    by : (a b : Bool) → a ≡ true → b ≡ true → comparable e d ≡ true → ((a && is_prefix e d) || (b && is_prefix d e)) ≡ true
    by a b f g h = (λ i. (f i && is_prefix e d) || (g i && is_prefix d e)) ∙ h

pub equal_prefix : (p q : Path) → path_eq p q ≡ true → is_prefix q p ≡ true
equal_prefix [] [] h = refl
equal_prefix [] (k ∷ q) h = absurd (true≢false (sym h))
equal_prefix (k ∷ p) [] h = absurd (true≢false (sym h))
equal_prefix (k ∷ p) (m ∷ q) h =
    let parts = and_parts (bytes_eq k m) (path_eq p q) h in
    (λ i. (ap (λ x. bytes_eq m x) (same_name k m parts.0) ∙ name_itself m) i && equal_prefix p q parts.1 i)

-- ---- one changeset more

pub one_more : (cs : List Changeset) (c : Changeset) (p : Path) → tree (cs ++ c ∷ []) p ≡ cond (decides c p) (set_at c p) (tree cs p)
one_more cs c p =
    tree-append cs (c ∷ []) p
    ∙ elim (decides c p) as (λ b. cond (b || false) (option_and_then (λ c. set_at c p) (cond b (Some c) None)) (tree cs p) ≡ cond b (set_at c p) (tree cs p)) [ true ↦ refl | false ↦ refl ]

pub undecided_kept : (cs : List Changeset) (c : Changeset) (p : Path) → decides c p ≡ false → tree (cs ++ c ∷ []) p ≡ tree cs p
undecided_kept cs c p h = one_more cs c p ∙ ap (λ b. cond b (set_at c p) (tree cs p)) h

out_of_reach : (d p : Path) (q : Path) (change : FileChange) → is_prefix d p ≡ true → reaches (q, change) d ≡ false → decides_at change q p ≡ false
out_of_reach d p q (Set f copied) inside h =
    let parts = or_parts (is_prefix q d) (is_prefix d q) h in
    false_from_ne_true (comparable q p) (λ g. or_either (is_prefix q p) (is_prefix p q)
    (λ under. true_and_false (comparable q d) (prefixes_compare d q p inside under) h)
    (λ above. true_and_false (is_prefix d q) (prefix_trans d p q inside above) parts.1) g)
out_of_reach d p q Delete inside h = false_from_ne_true (path_eq q p) (λ same. true_and_false (is_prefix d q) (prefix_trans d p q inside (equal_prefix q p same)) h)

pub none_decides : (d p : Path) → is_prefix d p ≡ true → (es : List (Path × FileChange)) → list_any (λ e. reaches e d) es ≡ false → list_any (λ e. decides_at e.1 e.0 p) es ≡ false
none_decides d p inside [] h = refl
none_decides d p inside (e ∷ es) h =
    let parts = or_parts (reaches e d) (list_any (λ e. reaches e d) es) h in
    (λ i. out_of_reach d p e.0 e.1 inside parts.0 i || none_decides d p inside es parts.1 i)

-- what a changeset doesn't reach it leaves
pub unreached_kept : (cs : List Changeset) (c : Changeset) (d p : Path) → is_reached c d ≡ false → is_prefix d p ≡ true → tree (cs ++ c ∷ []) p ≡ tree cs p
unreached_kept cs c d p h inside = undecided_kept cs c p (none_decides d p inside c.changes h)

-- ---- the files in a directory, where two trees agree

pub same_files : (xs ys : Files) → is_sorted path_cmp xs ≡ true → is_sorted path_cmp ys ≡ true → ((p : Path) → file_at xs p ≡ file_at ys p) → xs ≡ ys
same_files xs ys h g e = same_entries path_cmp path_cmp_total path_cmp-IsAntisymmetric xs ys (is_so (is_sorted path_cmp xs) h) (is_so (is_sorted path_cmp ys) g) e

pub same_below : (xs ys : Files) (d : Path) → is_sorted path_cmp xs ≡ true → is_sorted path_cmp ys ≡ true → ((p : Path) → is_prefix d p ≡ true → file_at xs p ≡ file_at ys p) → below d xs ≡ below d ys
same_below xs ys d h g e =
    same_files (below d xs) (below d ys) (below_rises d xs h) (below_rises d ys g)
    (λ q. file_at-below d xs q ∙ e (d ++ q) (prefix_itself d q) ∙ sym (file_at-below d ys q))

-- the files of a tree rise
filed_below : (t : Path → Option File) (p : Path) (qs : List Path) → AllByRecursion (λ q. path_lt p q ≡ true) qs → below_all path_cmp p (filter_map (λ q. option_map (λ f. (q, f)) (t q)) qs) ≡ true
filed_below t p [] all = refl
filed_below t p (q ∷ qs) all = by (t q) (filed_below t p qs all.1)
  where
    by : (o : Option File) → below_all path_cmp p (filter_map (λ q. option_map (λ f. (q, f)) (t q)) qs) ≡ true → below_all path_cmp p (cons_option (option_map (λ f. (q, f)) o) (filter_map (λ q. option_map (λ f. (q, f)) (t q)) qs)) ≡ true
    by None h = h
    by (Some f) h = λ i. all.0 i && h i

pub filed_rise : (t : Path → Option File) (ps : List Path) → IsRising ps → is_sorted path_cmp (filter_map (λ q. option_map (λ f. (q, f)) (t q)) ps) ≡ true
filed_rise t [] rises = refl
filed_rise t (p ∷ ps) rises = by (t p) (filed_below t p ps rises.0) (filed_rise t ps rises.1)
  where
    by : (o : Option File) → below_all path_cmp p (filter_map (λ q. option_map (λ f. (q, f)) (t q)) ps) ≡ true → is_sorted path_cmp (filter_map (λ q. option_map (λ f. (q, f)) (t q)) ps) ≡ true → is_sorted path_cmp (cons_option (option_map (λ f. (p, f)) o) (filter_map (λ q. option_map (λ f. (q, f)) (t q)) ps)) ≡ true
    by None h g = g
    by (Some f) h g = λ i. h i && g i

pub files_rise : (cs : List Changeset) → is_sorted path_cmp (files cs) ≡ true
files_rise cs = filed_rise (tree cs) (touched_paths cs) (touched_paths_rise cs)

pub same_trees_below : (cs ds : List Changeset) (d : Path) → ((p : Path) → is_prefix d p ≡ true → tree cs p ≡ tree ds p) → below d (files cs) ≡ below d (files ds)
same_trees_below cs ds d e = same_below (files cs) (files ds) d (files_rise cs) (files_rise ds) (λ p inside. file_at-files cs p ∙ e p inside ∙ sym (file_at-files ds p))

pub unreached : (cs : List Changeset) (c : Changeset) (d : Path) → is_reached c d ≡ false → below d (files (cs ++ c ∷ [])) ≡ below d (files cs)
unreached cs c d h = same_trees_below (cs ++ c ∷ []) cs d (λ p inside. unreached_kept cs c d p h inside)
