-- The fsnode of a directory, by its summary and its entries.
use Rattle.std.proofs.Common.{◌≡◌, ℕ, zero, suc, ◌≤◌, true, false, cond, List, [], ◌∷◌, ◌++◌, map, length, refl, sym, ap, subst, ◌∙◌, arith}
use Rattle.std.specs.Prelude.{Option, Some, None, is_some, ◌||◌}
use Rattle.std.specs.Option.{option_map_or}
use Rattle.std.specs.FinMap.{is_sorted, find as find_key}
use Rattle.changeset_model.specs.Path.{Path, path_cmp, is_prefix}
use Rattle.changeset_model.specs.Changeset.{File, Changeset}
use Rattle.byte_fields.proofs.Lists.{weaker}
use Rattle.history_model.specs.Tree.{tree, files, file_at, is_file, is_dir, names, below, children, depth}
use Rattle.manifest_model.specs.Fsnode.{Fsnode, FsEntry, FsFile, fs_dir, summary_of, fsnode_within, fsnode}
use Rattle.manifest_laws.specs.Entries.{fs_entries, fs_entry_at}
use Rattle.manifest_laws.proofs.Under.{Files, IsWithin, below-twice, within_depth, within_below, within_less, no_children}
use Rattle.manifest_model.specs.Unode.{is_renewed}
use Rattle.manifest_laws.specs.Changes.{is_reached, AreClear}
use Rattle.manifest_laws.proofs.Changes.{same_trees_below, unreached}
use Rattle.manifest_laws.proofs.Flat.{is_left, left_below}
use Rattle.manifest_laws.proofs.Names.{name_cmp, keyed, looked_up, file_at-below, file_by_below, dir_by_below, among_names, names_rise, below_rises}
use Rattle.manifest_laws.proofs.Lists.{map_map}

abbrev entry_by : (List ℕ → Fsnode) → List ℕ × Option File → List ℕ × FsEntry
entry_by node child = (child.0, option_map_or FsFile child.1 (fs_dir (node child.0)))

entries_same : (f g : List ℕ → Fsnode) → ((n : List ℕ) → f n ≡ g n) → (cs : List (List ℕ × Option File)) → map (entry_by f) cs ≡ map (entry_by g) cs
entries_same f g e cs = λ i. map (entry_by (λ n. e n i)) cs

-- how many elements more are allowed doesn't matter
pub within_same : (n m : ℕ) (fs : Files) → IsWithin n fs → IsWithin m fs → fsnode_within n fs ≡ fsnode_within m fs
within_same zero zero fs h g = refl
within_same zero (suc m) fs h g = λ i. record { summary = summary_of fs; entries = map (entry_by (λ n. fsnode_within m (below (n ∷ []) fs))) (sym (no_children fs h) i) }
within_same (suc n) zero fs h g = λ i. record { summary = summary_of fs; entries = map (entry_by (λ k. fsnode_within n (below (k ∷ []) fs))) (no_children fs g i) }
within_same (suc n) (suc m) fs h g = λ i. record {
  summary = summary_of fs;
  entries = entries_same (λ k. fsnode_within n (below (k ∷ []) fs)) (λ k. fsnode_within m (below (k ∷ []) fs)) (λ k. within_same n m (below (k ∷ []) fs) (within_less n k fs h) (within_less m k fs g)) (children fs) i;
}

pub summary_within : (n : ℕ) (fs : Files) → (fsnode_within n fs).summary ≡ summary_of fs
summary_within zero fs = refl
summary_within (suc n) fs = refl

pub summary_is : (files : List (Path × File)) (d : Path) → (fsnode files d).summary ≡ summary_of (below d files)
summary_is files d = summary_within (depth files) (below d files)

more : (n : ℕ) (fs : Files) → IsWithin n fs → IsWithin (suc n) fs
more n [] h = tt
more n (f ∷ fs) h = (omega (arith, h.0), more n fs h.1)

pub entries_are : (files : List (Path × File)) (d : Path) → (fsnode files d).entries ≡ fs_entries files d
entries_are files d =
    let inside = within_below (depth files) d files (within_depth files) in
    ap (λ (n : Fsnode). n.entries) (within_same (depth files) (suc (depth files)) (below d files) inside (more (depth files) (below d files) inside))
    ∙ entries_same (λ k. fsnode_within (depth files) (below (k ∷ []) (below d files))) (λ k. fsnode files (d ++ k ∷ [])) (λ k. ap (fsnode_within (depth files)) (below-twice d (k ∷ []) files)) (children (below d files))

-- ---- the entry of a name

abbrev pub found_here : Files → Path → FsEntry
found_here files p = option_map_or FsFile (file_at files p) (fs_dir (fsnode files p))

pub keyed_entries : (files : List (Path × File)) (d : Path) → fs_entries files d ≡ keyed (λ n. found_here files (d ++ n ∷ [])) (names (below d files))
keyed_entries files d =
    map_map (entry_by (λ k. fsnode files (d ++ k ∷ []))) (λ n. (n, file_at (below d files) (n ∷ []))) (names (below d files))
    ∙ (λ i. map (λ n. (n, option_map_or FsFile (file_at-below d files (n ∷ []) i) (fs_dir (fsnode files (d ++ n ∷ []))))) (names (below d files)))

pub entry_is : (files : List (Path × File)) (d : Path) (n : List ℕ) → fs_entry_at (fsnode files d) n ≡ cond (is_file files (d ++ n ∷ []) || is_dir files (d ++ n ∷ [])) (Some (found_here files (d ++ n ∷ []))) None
entry_is files d n =
    ap (find_key name_cmp n) (entries_are files d ∙ keyed_entries files d)
    ∙ looked_up (λ n. found_here files (d ++ n ∷ [])) n (names (below d files))
    ∙ ap (λ b. cond b (Some (found_here files (d ++ n ∷ []))) None) (among_names d files n)

pub entry_of_file : (files : List (Path × File)) (d : Path) (n : List ℕ) (f : File) → file_at files (d ++ n ∷ []) ≡ Some f → fs_entry_at (fsnode files d) n ≡ Some (FsFile f)
entry_of_file files d n f e = entry_is files d n ∙ (λ i. cond (is_some (e i) || is_dir files (d ++ n ∷ [])) (Some (option_map_or FsFile (e i) (fs_dir (fsnode files (d ++ n ∷ []))))) None)

pub entry_of_dir : (files : List (Path × File)) (d : Path) (n : List ℕ) → file_at files (d ++ n ∷ []) ≡ None → is_dir files (d ++ n ∷ []) ≡ true → fs_entry_at (fsnode files d) n ≡ Some (fs_dir (fsnode files (d ++ n ∷ [])))
entry_of_dir files d n e h = entry_is files d n ∙ (λ i. cond (is_some (e i) || h i) (Some (option_map_or FsFile (e i) (fs_dir (fsnode files (d ++ n ∷ []))))) None)

pub entry_of_nothing : (files : List (Path × File)) (d : Path) (n : List ℕ) → file_at files (d ++ n ∷ []) ≡ None → is_dir files (d ++ n ∷ []) ≡ false → fs_entry_at (fsnode files d) n ≡ None
entry_of_nothing files d n e h = entry_is files d n ∙ (λ i. cond (is_some (e i) || h i) (Some (option_map_or FsFile (e i) (fs_dir (fsnode files (d ++ n ∷ []))))) None)

pub entries_rise : (files : List (Path × File)) (d : Path) → is_sorted path_cmp files ≡ true → is_sorted name_cmp (fsnode files d).entries ≡ true
entries_rise files d h = ap (is_sorted name_cmp) (entries_are files d ∙ keyed_entries files d) ∙ names_rise (λ n. found_here files (d ++ n ∷ [])) (below d files) (below_rises d files h)

-- ---- equal files

pub deep_enough : (files : List (Path × File)) (d : Path) (deep : ℕ) → depth (below d files) ≤ deep → fsnode_within deep (below d files) ≡ fsnode files d
deep_enough files d deep h =
    within_same deep (depth files) (below d files) (weaker (λ f. length f.0 ≤ depth (below d files)) (λ f. length f.0 ≤ deep) (λ f g. omega arith) (below d files) (within_depth (below d files))) (within_below (depth files) d files (within_depth files))

pub same_node : (xs ys : List (Path × File)) (d : Path) → below d xs ≡ below d ys → fsnode xs d ≡ fsnode ys d
same_node xs ys d e =
    ap (fsnode_within (depth xs)) e
    ∙ within_same (depth xs) (depth ys) (below d ys) (subst (IsWithin (depth xs)) e (within_below (depth xs) d xs (within_depth xs))) (within_below (depth ys) d ys (within_depth ys))

pub same_trees : (cs ds : List Changeset) (d : Path) → ((p : Path) → is_prefix d p ≡ true → tree cs p ≡ tree ds p) → fsnode (files cs) d ≡ fsnode (files ds) d
same_trees cs ds d e = same_node (files cs) (files ds) d (same_trees_below cs ds d e)

pub unreached_node : (cs : List Changeset) (c : Changeset) (d : Path) → is_reached c d ≡ false → fsnode (files (cs ++ c ∷ [])) d ≡ fsnode (files cs) d
unreached_node cs c d h = same_node (files (cs ++ c ∷ [])) (files cs) d (unreached cs c d h)

-- the entry of a name is of the files below it
pub same_entry : (xs ys : List (Path × File)) (d : Path) (n : List ℕ) → below (d ++ n ∷ []) xs ≡ below (d ++ n ∷ []) ys → fs_entry_at (fsnode xs d) n ≡ fs_entry_at (fsnode ys d) n
same_entry xs ys d n e =
    entry_is xs d n
    ∙ (λ i. cond (is_some (file_by_below xs ys (d ++ n ∷ []) e i) || dir_by_below xs ys (d ++ n ∷ []) e i) (Some (option_map_or FsFile (file_by_below xs ys (d ++ n ∷ []) e i) (fs_dir (same_node xs ys (d ++ n ∷ []) e i)))) None)
    ∙ sym (entry_is ys d n)

pub unreached_entry : (cs : List Changeset) (c : Changeset) (d : Path) (n : List ℕ) → is_reached c (d ++ n ∷ []) ≡ false → fs_entry_at (fsnode (files (cs ++ c ∷ [])) d) n ≡ fs_entry_at (fsnode (files cs) d) n
unreached_entry cs c d n h = same_entry (files (cs ++ c ∷ [])) (files cs) d n (unreached cs c (d ++ n ∷ []) h)

-- ---- a directory of which a changeset renews nothing

pub unrenewed_was_there : (cs : List Changeset) (c : Changeset) (d : Path) → AreClear (cs ++ c ∷ []) → is_renewed c d ≡ false → is_dir (files (cs ++ c ∷ [])) d ≡ true → is_dir (files cs) d ≡ true
unrenewed_was_there cs c d clear h dir = (is_left cs c d clear h dir).was_dir

pub unrenewed_files : (cs : List Changeset) (c : Changeset) (d : Path) → AreClear (cs ++ c ∷ []) → is_renewed c d ≡ false → is_dir (files (cs ++ c ∷ [])) d ≡ true → below d (files (cs ++ c ∷ [])) ≡ below d (files cs)
unrenewed_files cs c d clear h dir = left_below cs c d (is_left cs c d clear h dir)

pub unrenewed_node : (cs : List Changeset) (c : Changeset) (d : Path) → AreClear (cs ++ c ∷ []) → is_renewed c d ≡ false → is_dir (files (cs ++ c ∷ [])) d ≡ true → fsnode (files (cs ++ c ∷ [])) d ≡ fsnode (files cs) d
unrenewed_node cs c d clear h dir = same_node (files (cs ++ c ∷ [])) (files cs) d (unrenewed_files cs c d clear h dir)
