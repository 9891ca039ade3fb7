-- Which changeset made a path's unode, and what its parent is.
use Rattle.std.proofs.Common.{◌≡◌, ℕ, zero, suc, ◌+◌, Bool, true, false, cond, ◌||◌, List, [], ◌∷◌, ◌++◌, map, reverse, refl, sym, ap, ◌∙◌}
use Rattle.std.specs.Prelude.{Option, Some, None, filter_map, flat_map, find, option_map, is_some, unwrap_or}
use mathlib.Core.Bool.{true≢false}
use mathlib.Core.List.{reverse-cons}
use Rattle.std.specs.List.{list_any, cons_option}
use Rattle.std.specs.Option.{option_and_then, option_map_or, option_to_list}
use Rattle.std.specs.Ordering.{eq_by_cmp}
use Rattle.std.specs.FinMap.{find as find_key}
use Rattle.std.specs.FinMap.Entries.{is_some-find}
use Rattle.std.proofs.lemmas.List.{map-append}
use Rattle.std.proofs.lemmas.List.Folds.{list_any-append}
use Rattle.sha2.specs.Sha256.{sha256}
use Rattle.changeset_model.specs.Path.{Path, text_of, path_cmp}
use Rattle.changeset_model.specs.Changeset.{File, FileChange, Changeset, file_of, change_at, set_at, touched_paths}
use Rattle.history_model.specs.History.{Known}
use Rattle.history_model.specs.Chain.{changesets}
use Rattle.history_model.specs.Tree.{decides, tree, files, file_at, is_file, below, children, depth}
use Rattle.manifest_model.specs.Unode.{Unode, Manifest, FileUnode, is_renewed, unode_entry, no_unode, parents_by, file_unode, unode_within, was_file, was_dir, unode, unode_id, linknode_of, files_at}
use Rattle.history_model.proofs.Trees.{tree-append}
use Rattle.manifest_model.proofs.Derivations.{among, tied_same, rising_has}
use Rattle.history_model.proofs.Landings.{or_true as or_right, or_left}
use Rattle.history_model.proofs.Trees.{tree-one}

-- ---- the files of a tree

abbrev with_file : (Path → Option File) → Path → Option (Path × File)
with_file g p = option_map (λ f. (p, f)) (g p)

abbrev find_with : Bool → Option File → Option File → Option File
find_with b None found = found
find_with b (Some f) found = cond b (Some f) found

find_first : (p q : Path) (o : Option File) (rest : List (Path × File)) → find_key path_cmp p (cons_option (option_map (λ f. (q, f)) o) rest) ≡ find_with (eq_by_cmp path_cmp p q) o (find_key path_cmp p rest)
find_first p q None rest = refl
find_first p q (Some f) rest = refl

pub none_either : (m : Bool) (o : Option File) → o ≡ None → cond m o None ≡ o
none_either true o e = refl
none_either false o e = sym e

found_by : (g : Path → Option File) (p q : Path) (found : Option File) (m : Bool) → found ≡ cond m (g p) None → (b : Bool) → eq_by_cmp path_cmp p q ≡ b → (o : Option File) → g q ≡ o → find_with b o found ≡ cond (b || m) (g p) None
found_by g p q found m ih true e (Some f) at = sym (ap g (tied_same p q e) ∙ at)
found_by g p q found m ih true e None at = ih ∙ none_either m (g p) (ap g (tied_same p q e) ∙ at)
found_by g p q found m ih false e (Some f) at = ih
found_by g p q found m ih false e None at = ih

-- what is found at a path of files that were listed by their paths
pub found_in : (g : Path → Option File) (p : Path) (qs : List Path) → find_key path_cmp p (filter_map (with_file g) qs) ≡ cond (among p qs) (g p) None
found_in g p [] = refl
found_in g p (q ∷ qs) =
    find_first p q (g q) (filter_map (with_file g) qs)
    ∙ found_by g p q (find_key path_cmp p (filter_map (with_file g) qs)) (among p qs) (found_in g p qs) (eq_by_cmp path_cmp p q) refl (g q) refl

set_some : (o : Option FileChange) → is_some (option_and_then file_of o) ≡ true → is_some o ≡ true
set_some None h = h
set_some (Some c) h = refl

of_decider : (b : Bool) (o : Option File) → is_some (cond b o None) ≡ true → is_some o ≡ true
of_decider true o h = h
of_decider false o h = absurd (true≢false (sym h))

abbrev changed : List Changeset → List Path
changed cs = flat_map (λ c. map (λ e. e.0) c.changes) cs

touched_by : (c : Changeset) (cs : List Changeset) (p : Path) → (is_some (tree cs p) ≡ true → among p (changed cs) ≡ true) → (b : Bool) → is_some (cond b (tree cs p) (tree (c ∷ []) p)) ≡ true → (among p (map (λ e. e.0) c.changes) || among p (changed cs)) ≡ true
touched_by c cs p later true h = or_right (among p (map (λ e. e.0) c.changes)) (among p (changed cs)) (later h)
touched_by c cs p later false h =
    or_left (among p (map (λ e. e.0) c.changes)) (among p (changed cs))
    (sym (is_some-find path_cmp p c.changes) ∙ set_some (change_at c p) (of_decider (decides c p) (set_at c p) (sym (ap is_some (tree-one c p)) ∙ h)))

-- a file of the tree was set by some changeset
touched_has : (cs : List Changeset) (p : Path) → is_some (tree cs p) ≡ true → among p (changed cs) ≡ true
touched_has [] p h = absurd (true≢false (sym h))
touched_has (c ∷ cs) p h =
    list_any-append (eq_by_cmp path_cmp p) (map (λ e. e.0) c.changes) (changed cs)
    ∙ touched_by c cs p (touched_has cs p) (list_any (λ d. decides d p) cs) (sym (ap is_some (tree-append (c ∷ []) cs p)) ∙ h)

nothing_by : (cs : List Changeset) (p : Path) → (b : Bool) → among p (touched_paths cs) ≡ b → (o : Option File) → tree cs p ≡ o → cond b (tree cs p) None ≡ tree cs p
nothing_by cs p true e o at = refl
nothing_by cs p false e None at = sym at
nothing_by cs p false e (Some f) at = absurd (true≢false (sym (rising_has p (changed cs) (touched_has cs p (ap is_some at))) ∙ e))

-- the files are those of the tree
pub file_at-files : (cs : List Changeset) (p : Path) → file_at (files cs) p ≡ tree cs p
file_at-files cs p = found_in (tree cs) p (touched_paths cs) ∙ nothing_by cs p (among p (touched_paths cs)) refl (tree cs p) refl

-- ---- one changeset more

pub none_some : (f : File) → ◌≡◌ {A = Option File} None (Some f) → ⊥
none_some f e = absurd cc

undecided : (b : Bool) (o : Option File) (f : File) → o ≡ None → cond b o None ≡ Some f → ⊥
undecided true o f n e = none_some f (sym n ∙ e)
undecided false o f n e = none_some f e

before_by : (cs : List Changeset) (c : Changeset) (p : Path) (f : File) → set_at c p ≡ None → (b : Bool) → cond b (tree (c ∷ []) p) (tree cs p) ≡ Some f → tree cs p ≡ Some f
before_by cs c p f n true e = absurd (undecided (decides c p) (set_at c p) f n (sym (tree-one c p) ∙ e))
before_by cs c p f n false e = e

-- a file that a changeset doesn't set was there before it
pub was_there : (cs : List Changeset) (c : Changeset) (p : Path) (f : File) → set_at c p ≡ None → tree (cs ++ c ∷ []) p ≡ Some f → tree cs p ≡ Some f
was_there cs c p f n e = before_by cs c p f n (list_any (λ d. decides d p) (c ∷ [])) (sym (tree-append cs (c ∷ []) p) ∙ e)

abbrev pub tree_on : List Known → Path → Option File
tree_on ks p = tree (changesets (reverse ks)) p

pub tree_on-cons : (c : Known) (older : List Known) (p : Path) → tree_on (c ∷ older) p ≡ tree (changesets (reverse older) ++ c.changeset ∷ []) p
tree_on-cons c older p = ap (λ ks. tree (changesets ks) p) (reverse-cons c older) ∙ ap (λ cs. tree cs p) (map-append (λ k. k.changeset) (reverse older) (c ∷ []))

-- ---- the unode of a file

abbrev was_before : List Known → Path → Bool
was_before older p = option_map_or (λ files. is_file files p) (files_at older) false

file_before : (older : List Known) (p : Path) (f : File) → tree_on older p ≡ Some f → was_before older p ≡ true
file_before [] p f e = absurd (none_some f e)
file_before (d ∷ rest) p f e = ap is_some (file_at-files (changesets (reverse (d ∷ rest))) p ∙ e)

module _ (c : Known) (now : List (Path × File)) (was_f was_d : Path → Option Unode) where
  file_here : (n : ℕ) (p : Path) (f : File) → file_at now p ≡ Some f → unode_within c now was_f was_d n p ≡ file_unode c now was_f was_d p f
  file_here zero p f e = λ i. option_map_or (file_unode c now was_f was_d p) (e i) (unwrap_or (was_d p) no_unode)
  file_here (suc n) p f e =
      let other : Unode = cond (is_renewed c.changeset p)
      (Manifest (parents_by c now was_f was_d (was_d p)) c.id (map (λ child. (child.0, unode_entry child.1 (unode_id (unode_within c now was_f was_d n (p ++ child.0 ∷ []))))) (children (below p now))))
      (unwrap_or (was_d p) no_unode) in
      ap (λ o. option_map_or (file_unode c now was_f was_d p) o other) e

kept_by : (b : Bool) (n : Unode) → b ≡ true → unwrap_or (cond b (Some n) None) no_unode ≡ n
kept_by true n e = refl
kept_by false n e = absurd (true≢false (sym e))

abbrev files_on : List Known → List (Path × File)
files_on ks = files (changesets (reverse ks))

-- a file that isn't set keeps its unode
pub unode_kept : (c : Known) (older : List Known) (p : Path) (f : File) → tree_on (c ∷ older) p ≡ Some f → set_at c.changeset p ≡ None → unode (c ∷ older) p ≡ unode older p
unode_kept c older p f e n =
    let was = was_there (changesets (reverse older)) c.changeset p f n (sym (tree_on-cons c older p) ∙ e) in
    file_here c (files_on (c ∷ older)) (was_file (files_at older) (unode older)) (was_dir (files_at older) (unode older)) (depth (files_on (c ∷ older)) + 1) p f (file_at-files (changesets (reverse (c ∷ older))) p ∙ e)
    ∙ (λ i. cond (is_some (n i)) (FileUnode (parents_by c (files_on (c ∷ older)) (was_file (files_at older) (unode older)) (was_dir (files_at older) (unode older)) (was_file (files_at older) (unode older) p)) f.content f.kind (sha256 (text_of p)) c.id) (unwrap_or (was_file (files_at older) (unode older) p) no_unode))
    ∙ kept_by (was_before older p) (unode older p) (file_before older p f was)

pub parents_are : (b : Bool) (n : Unode) → option_to_list (option_map unode_id (cond b (Some n) None)) ≡ cond b (unode_id n ∷ []) []
parents_are true n = refl
parents_are false n = refl

-- one that is set has a new one, on its unode at the parent, if it was a file there
pub unode_made : (c : Known) (older : List Known) (p : Path) (f g : File) → tree_on (c ∷ older) p ≡ Some f → set_at c.changeset p ≡ Some g → unode (c ∷ older) p ≡ FileUnode (cond (is_some (tree_on older p)) (unode_id (unode older p) ∷ []) []) f.content f.kind (sha256 (text_of p)) c.id
unode_made c older p f g e s =
    file_here c (files_on (c ∷ older)) (was_file (files_at older) (unode older)) (was_dir (files_at older) (unode older)) (depth (files_on (c ∷ older)) + 1) p f (file_at-files (changesets (reverse (c ∷ older))) p ∙ e)
    ∙ (λ i. cond (is_some (s i)) (FileUnode (parents_are (was_before older p) (unode older p) i) f.content f.kind (sha256 (text_of p)) c.id) (unwrap_or (was_file (files_at older) (unode older) p) no_unode))
    ∙ ap (λ b. FileUnode (cond b (unode_id (unode older p) ∷ []) []) f.content f.kind (sha256 (text_of p)) c.id) (was_is older)
  where
    was_is : (older : List Known) → was_before older p ≡ is_some (tree_on older p)
    was_is [] = refl
    was_is (d ∷ rest) = ap is_some (file_at-files (changesets (reverse (d ∷ rest))) p)

-- the first of a line that sets a file
abbrev pub setter : List Known → Path → Option Known
setter ks p = find (λ k. is_some (set_at k.changeset p)) ks

link_by : (c : Known) (older : List Known) (p : Path) (f : File) → tree_on (c ∷ older) p ≡ Some f → ((f : File) → tree_on older p ≡ Some f → option_map (λ k. k.id) (setter older p) ≡ Some (linknode_of (unode older p))) → (o : Option File) → set_at c.changeset p ≡ o → option_map (λ k. k.id) (cond (is_some o) (Some c) (setter older p)) ≡ Some (linknode_of (unode (c ∷ older) p))
link_by c older p f e later (Some g) s = ap (λ n. Some (linknode_of n)) (sym (unode_made c older p f g e s))
link_by c older p f e later None s =
    later f (was_there (changesets (reverse older)) c.changeset p f s (sym (tree_on-cons c older p) ∙ e))
    ∙ ap (λ n. Some (linknode_of n)) (sym (unode_kept c older p f e s))

-- a file's unode was made by the last that sets it
pub link_is_setter : (ks : List Known) (p : Path) (f : File) → tree_on ks p ≡ Some f → option_map (λ k. k.id) (setter ks p) ≡ Some (linknode_of (unode ks p))
link_is_setter [] p f e = absurd (none_some f e)
link_is_setter (c ∷ older) p f e = link_by c older p f e (link_is_setter older p) (set_at c.changeset p) refl
