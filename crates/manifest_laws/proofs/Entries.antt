-- What the entries of nodes tell, and which nodes the manifests of a changeset have.
use Rattle.std.proofs.Common.{◌≡◌, Bool, true, false, cond, ◌||◌, List, [], ◌∷◌, ◌++◌, map, length, reverse, refl, sym, ap, ◌∙◌}
use Rattle.std.specs.Prelude.{Option, Some, None, is_some, option_map, ◌==◌}
use Rattle.std.specs.Option.{option_or, option_map_or}
use Rattle.std.specs.Ordering.{eq_by_cmp}
use Rattle.std.specs.Cmp.Lexicographic.{nat_list_cmp_total}
use Rattle.std.specs.FinMap.{IsAntisymmetric, nat_cmp-IsAntisymmetric, slice_cmp-IsAntisymmetric, is_sorted, find as find_key}
use Rattle.std.specs.FinMap.Entries.{is_some-find, same_entries}
use Rattle.std.proofs.lemmas.Bool.{false_from_ne_true}
use Rattle.std.proofs.lemmas.List.Folds.{list_any-append}
use Rattle.byte_fields.specs.Bytes.{Id}
use Rattle.changeset_model.specs.Path.{Path, path_cmp}
use Rattle.changeset_model.specs.Changeset.{File, Changeset, set_at}
use Rattle.history_model.specs.History.{Known}
use Rattle.history_model.specs.Chain.{changesets}
use Rattle.history_model.specs.Tree.{decides, files, file_at, is_file, is_dir, below}
use Rattle.manifest_model.specs.Fsnode.{Fsnode, FsEntry, FsFile, fs_dir, fsnode}
use Rattle.manifest_model.specs.Unode.{Unode, UnodeEntry, unode_entry, unode_id, unode}
use Rattle.manifest_model.specs.Deleted.{has_node, node_in}
use Rattle.manifest_model.specs.Manifests.{dirs_of, paths_of, gone_paths, manifests_by}
use Rattle.manifest_model.proofs.Derivations.{among, tied_same}
use Rattle.manifest_model.proofs.Links.{file_at-files, tree_on-cons}
use Rattle.manifest_laws.specs.Changes.{AreClear, tree_at, files_in}
use Rattle.manifest_laws.specs.Entries.{unode_entry_at, is_file_unode_entry, is_dir_unode_entry, unode_entry_for, fs_entry_at, file_of_entry, is_dir_entry, entries_of}
use Rattle.manifest_laws.proofs.Names.{Name, name_cmp, names_rise, below_rises}
use Rattle.manifest_laws.proofs.Changes.{one_more, files_rise}
use Rattle.manifest_laws.proofs.Flat.{file_under, flat}
use Rattle.manifest_laws.proofs.Fsnodes as fsnodes
use Rattle.manifest_laws.proofs.Unodes as unodes
use Rattle.manifest_laws.proofs.Steps.{both_ways}
use Rattle.manifest_laws.proofs.Directories.{Contains-among, directories_are, gone_paths_are}
use Rattle.manifest_laws.proofs.Lists.{is_so, none_some}

-- ---- entries by rising names are those that are found

name_cmp-IsAntisymmetric : IsAntisymmetric name_cmp
name_cmp-IsAntisymmetric = slice_cmp-IsAntisymmetric nat_cmp-IsAntisymmetric

same_found : {X : Type 0} (xs ys : List (Name × X)) → is_sorted name_cmp xs ≡ true → is_sorted name_cmp ys ≡ true → ((n : Name) → find_key name_cmp n xs ≡ find_key name_cmp n ys) → xs ≡ ys
same_found xs ys h g e = same_entries name_cmp nat_list_cmp_total name_cmp-IsAntisymmetric xs ys (is_so (is_sorted name_cmp xs) h) (is_so (is_sorted name_cmp ys) g) e

pub fs_entries_found : (files : List (Path × File)) (d : Path) (es : List (Name × FsEntry)) → is_sorted path_cmp files ≡ true → is_sorted name_cmp es ≡ true → ((n : Name) → find_key name_cmp n es ≡ fs_entry_at (fsnode files d) n) → es ≡ (fsnode files d).entries
fs_entries_found files d es rise sorted found = same_found es (fsnode files d).entries sorted (fsnodes.entries_rise files d rise) found

pub unode_entries_rise : (ks : List Known) (d : Path) → AreClear (changesets ks) → is_dir (files_in ks) d ≡ true → tree_at ks d ≡ None → is_sorted name_cmp (entries_of (unode ks d)) ≡ true
unode_entries_rise ks d clear dir none =
    ap (is_sorted name_cmp) (unodes.entries_are ks d clear dir none ∙ unodes.keyed_entries ks d)
    ∙ names_rise (λ n. unode_entry (file_at (files_in ks) (d ++ n ∷ [])) (unode_id (unode ks (d ++ n ∷ [])))) (below d (files_in ks)) (below_rises d (files_in ks) (files_rise (changesets (reverse ks))))

pub unode_entries_found : (ks : List Known) (d : Path) (es : List (Name × UnodeEntry)) → AreClear (changesets ks) → is_dir (files_in ks) d ≡ true → tree_at ks d ≡ None → is_sorted name_cmp es ≡ true → ((n : Name) → find_key name_cmp n es ≡ find_key name_cmp n (entries_of (unode ks d))) → es ≡ entries_of (unode ks d)
unode_entries_found ks d es clear dir none sorted found = same_found es (entries_of (unode ks d)) sorted (unode_entries_rise ks d clear dir none) found

-- ---- what an entry tells

entry_either : (o : Option File) (b : Bool) (n : Fsnode) → cond (is_some o || b) (Some (option_map_or FsFile o (fs_dir n))) None ≡ option_or (option_map FsFile o) (cond b (Some (fs_dir n)) None)
entry_either (Some f) b n = refl
entry_either None b n = refl

tells_file : (o : Option File) (b : Bool) (n : Fsnode) → o ≡ file_of_entry (cond (is_some o || b) (Some (option_map_or FsFile o (fs_dir n))) None)
tells_file (Some f) b n = refl
tells_file None true n = refl
tells_file None false n = refl

pub file_by_entry : (files : List (Path × File)) (d : Path) (n : Name) → file_at files (d ++ n ∷ []) ≡ file_of_entry (fs_entry_at (fsnode files d) n)
file_by_entry files d n =
    tells_file (file_at files (d ++ n ∷ [])) (is_dir files (d ++ n ∷ [])) (fsnode files (d ++ n ∷ []))
    ∙ ap file_of_entry (sym (fsnodes.entry_is files d n))

tells_dir : (o : Option File) (b : Bool) (n : Fsnode) → ((f : File) → o ≡ Some f → b ≡ false) → b ≡ is_dir_entry (cond (is_some o || b) (Some (option_map_or FsFile o (fs_dir n))) None)
tells_dir (Some f) b n alone = alone f refl
tells_dir None true n alone = refl
tells_dir None false n alone = refl

-- a file is no directory
alone_at : (cs : List Changeset) → AreClear cs → (p : Path) (f : File) → (length p == 0) ≡ false → file_at (files cs) p ≡ Some f → is_dir (files cs) p ≡ false
alone_at cs clear p f deep e =
    false_from_ne_true (is_dir (files cs) p) (λ dir. (
    let found = file_under cs p deep dir in
    none_some found.1 (sym (flat cs clear p found.0 f found.2 (sym (file_at-files cs p) ∙ e)) ∙ found.3)))

pub dir_by_entry : (cs : List Changeset) (d : Path) (n : Name) → AreClear cs → is_dir (files cs) (d ++ n ∷ []) ≡ is_dir_entry (fs_entry_at (fsnode (files cs) d) n)
dir_by_entry cs d n clear =
    tells_dir (file_at (files cs) (d ++ n ∷ [])) (is_dir (files cs) (d ++ n ∷ [])) (fsnode (files cs) (d ++ n ∷ [])) (λ f e. alone_at cs clear (d ++ n ∷ []) f (unodes.not_root d n) e)
    ∙ ap is_dir_entry (sym (fsnodes.entry_is (files cs) d n))

-- after a changeset: the file that it sets there or leaves there, or else the directory there
pub entry_after : (cs : List Changeset) (c : Changeset) (d : Path) (n : Name) → fs_entry_at (fsnode (files (cs ++ c ∷ [])) d) n
    ≡ option_or (option_map FsFile (cond (decides c (d ++ n ∷ [])) (set_at c (d ++ n ∷ [])) (file_of_entry (fs_entry_at (fsnode (files cs) d) n)))) (cond (is_dir (files (cs ++ c ∷ [])) (d ++ n ∷ [])) (Some (fs_dir (fsnode (files (cs ++ c ∷ [])) (d ++ n ∷ [])))) None)
entry_after cs c d n =
    let p = d ++ n ∷ [] in
    let now = files (cs ++ c ∷ []) in
    fsnodes.entry_is now d n
    ∙ entry_either (file_at now p) (is_dir now p) (fsnode now p)
    ∙ ap (λ o. option_or (option_map FsFile o) (cond (is_dir now p) (Some (fs_dir (fsnode now p))) None))
    (file_at-files (cs ++ c ∷ []) p ∙ one_more cs c p ∙ ap (cond (decides c p) (set_at c p)) (sym (file_at-files cs p) ∙ file_by_entry (files cs) d n))

-- ---- and that of a unode

either_unode : (o : Option File) (b : Bool) (x : Id) → cond (is_some o || b) (Some (unode_entry o x)) None ≡ unode_entry_for o b x
either_unode (Some f) b x = refl
either_unode None true x = refl
either_unode None false x = refl

unode_tells_file : (o : Option File) (b : Bool) (x : Id) → is_some o ≡ is_file_unode_entry (unode_entry_for o b x)
unode_tells_file (Some f) b x = refl
unode_tells_file None true x = refl
unode_tells_file None false x = refl

unode_tells_dir : (o : Option File) (b : Bool) (x : Id) → ((f : File) → o ≡ Some f → b ≡ false) → b ≡ is_dir_unode_entry (unode_entry_for o b x)
unode_tells_dir (Some f) b x alone = alone f refl
unode_tells_dir None true x alone = refl
unode_tells_dir None false x alone = refl

pub unode_entry_is : (ks : List Known) (d : Path) (n : Name) → AreClear (changesets ks) → is_dir (files_in ks) d ≡ true → tree_at ks d ≡ None
    → unode_entry_at (unode ks d) n ≡ unode_entry_for (tree_at ks (d ++ n ∷ [])) (is_dir (files_in ks) (d ++ n ∷ [])) (unode_id (unode ks (d ++ n ∷ [])))
unode_entry_is ks d n clear dir none =
    unodes.entry_is ks d n clear dir none
    ∙ either_unode (file_at (files_in ks) (d ++ n ∷ [])) (is_dir (files_in ks) (d ++ n ∷ [])) (unode_id (unode ks (d ++ n ∷ [])))
    ∙ ap (λ o. unode_entry_for o (is_dir (files_in ks) (d ++ n ∷ [])) (unode_id (unode ks (d ++ n ∷ [])))) (file_at-files (changesets (reverse ks)) (d ++ n ∷ []))

pub file_by_unode_entry : (ks : List Known) (d : Path) (n : Name) → AreClear (changesets ks) → is_dir (files_in ks) d ≡ true → tree_at ks d ≡ None → is_some (tree_at ks (d ++ n ∷ [])) ≡ is_file_unode_entry (unode_entry_at (unode ks d) n)
file_by_unode_entry ks d n clear dir none =
    unode_tells_file (tree_at ks (d ++ n ∷ [])) (is_dir (files_in ks) (d ++ n ∷ [])) (unode_id (unode ks (d ++ n ∷ [])))
    ∙ ap is_file_unode_entry (sym (unode_entry_is ks d n clear dir none))

pub dir_by_unode_entry : (ks : List Known) (d : Path) (n : Name) → AreClear (changesets ks) → is_dir (files_in ks) d ≡ true → tree_at ks d ≡ None → is_dir (files_in ks) (d ++ n ∷ []) ≡ is_dir_unode_entry (unode_entry_at (unode ks d) n)
dir_by_unode_entry ks d n clear dir none =
    unode_tells_dir (tree_at ks (d ++ n ∷ [])) (is_dir (files_in ks) (d ++ n ∷ [])) (unode_id (unode ks (d ++ n ∷ [])))
    (λ f e. alone_at (changesets (reverse ks)) (unodes.clear_chain ks clear) (d ++ n ∷ []) f (unodes.not_root d n) (file_at-files (changesets (reverse ks)) (d ++ n ∷ []) ∙ e))
    ∙ ap is_dir_unode_entry (sym (unode_entry_is ks d n clear dir none))

pub unode_entry_after : (c : Known) (older : List Known) (d : Path) (n : Name) → AreClear (changesets (c ∷ older)) → is_dir (files_in (c ∷ older)) d ≡ true → tree_at (c ∷ older) d ≡ None
    → unode_entry_at (unode (c ∷ older) d) n ≡ unode_entry_for (cond (decides c.changeset (d ++ n ∷ [])) (set_at c.changeset (d ++ n ∷ [])) (tree_at older (d ++ n ∷ []))) (is_dir (files_in (c ∷ older)) (d ++ n ∷ [])) (unode_id (unode (c ∷ older) (d ++ n ∷ [])))
unode_entry_after c older d n clear dir none =
    unode_entry_is (c ∷ older) d n clear dir none
    ∙ ap (λ o. unode_entry_for o (is_dir (files_in (c ∷ older)) (d ++ n ∷ [])) (unode_id (unode (c ∷ older) (d ++ n ∷ [])))) (tree_on-cons c older (d ++ n ∷ []) ∙ one_more (changesets (reverse older)) c.changeset (d ++ n ∷ []))

-- ---- the manifests of a changeset

found_by : {X : Type 0} (g : Path → X) (p q : Path) (found : Option X) (later : Bool) → found ≡ cond later (Some (g p)) None → (b : Bool) → eq_by_cmp path_cmp p q ≡ b → cond b (Some (g q)) found ≡ cond (b || later) (Some (g p)) None
found_by g p q found later e true h = ap (λ r. Some (g r)) (sym (tied_same p q h))
found_by g p q found later e false h = e

found_of : {X : Type 0} (g : Path → X) (p : Path) (ps : List Path) → find_key path_cmp p (map (λ q. (q, g q)) ps) ≡ cond (among p ps) (Some (g p)) None
found_of g p [] = refl
found_of g p (q ∷ ps) = found_by g p q (find_key path_cmp p (map (λ q. (q, g q)) ps)) (among p ps) (found_of g p ps) (eq_by_cmp path_cmp p q) refl

among_dirs : (fs : List (Path × File)) (d : Path) → among d (dirs_of fs) ≡ is_dir fs d
among_dirs fs d =
    let held = Contains-among (dirs_of fs) d in
    let is = directories_are fs d in
    both_ways (among d (dirs_of fs)) (is_dir fs d) (λ h. is.0 (held.1 h)) (λ h. held.0 (is.1 h))

pub fsnode_found : (x : Id) (fs : List (Path × File)) (gone : List (Path × Id)) (node : Path → Unode) (d : Path) → find_key path_cmp d (manifests_by x fs gone node).fsnodes ≡ cond (is_dir fs d) (Some (fsnode fs d)) None
fsnode_found x fs gone node d = found_of (fsnode fs) d (dirs_of fs) ∙ ap (λ b. cond b (Some (fsnode fs d)) None) (among_dirs fs d)

pub unode_found : (x : Id) (fs : List (Path × File)) (gone : List (Path × Id)) (node : Path → Unode) (p : Path) → find_key path_cmp p (manifests_by x fs gone node).unodes ≡ cond (is_dir fs p || is_file fs p) (Some (node p)) None
unode_found x fs gone node p =
    found_of node p (paths_of fs)
    ∙ ap (λ b. cond b (Some (node p)) None) (list_any-append (eq_by_cmp path_cmp p) (dirs_of fs) (map (λ (f : Path × File). f.0) fs) ∙ (λ i. among_dirs fs p i || sym (is_some-find path_cmp p fs) i))

among_gone : (gone : List (Path × Id)) (d : Path) → among d (gone_paths gone) ≡ has_node gone d
among_gone gone d =
    let held = Contains-among (gone_paths gone) d in
    let is = gone_paths_are gone d in
    both_ways (among d (gone_paths gone)) (has_node gone d) (λ h. is.0 (held.1 h)) (λ h. held.0 (is.1 h))

pub deleted_found : (x : Id) (fs : List (Path × File)) (gone : List (Path × Id)) (node : Path → Unode) (d : Path) → find_key path_cmp d (manifests_by x fs gone node).deleted_nodes ≡ cond (has_node gone d) (Some (node_in gone d)) None
deleted_found x fs gone node d = found_of (node_in gone) d (gone_paths gone) ∙ ap (λ b. cond b (Some (node_in gone d)) None) (among_gone gone d)
