-- What a table has of a past of which it holds all nodes.
use Rattle.std.proofs.Common.{◌≡◌, ℕ, ◌<◌, Bool, true, false, cond, ◌||◌, List, [], ◌∷◌, ◌++◌, length, refl, sym, ap, ◌∙◌, arith, append_assoc}
use Rattle.std.specs.Prelude.{Option, Some, None, option_map, is_some, ◌==◌}
use Rattle.std.specs.Option.{option_and_then, option_or}
use Rattle.std.specs.Result.{result_ok}
use Rattle.std.specs.Ordering.{nat_cmp}
use Rattle.std.specs.Cmp.Lexicographic.{slice_cmp}
use Rattle.std.specs.FinMap.{find as find_key}
use mathlib.Core.Bool.{true≢false}
use Rattle.std.proofs.lemmas.Bool.{false_from_ne_true, ne_eqb, or_parts}
use Rattle.std.proofs.lemmas.List.{append-nil, length-append}
use Rattle.byte_fields.specs.Bytes.{Id}
use Rattle.changeset_model.specs.Path.{Path, is_strict_prefix}
use Rattle.changeset_model.specs.Changeset.{File, set_at}
use Rattle.history_model.specs.History.{Known}
use Rattle.history_model.specs.Past.{Past, Begin, At}
use Rattle.history_model.specs.Tree.{decides, tree_of, files_in, is_file, is_dir}
use Rattle.manifest_model.specs.Fsnode.{fsnode, fsnode_bytes, fsnode_id}
use Rattle.manifest_model.specs.Unode.{Unode, Manifest, FileUnode, UnodeEntry, UnodeFile, UnodeDir, unode_bytes, unode_id, is_renewed}
use Rattle.manifest_model.specs.Merged.{unode_at}
use Rattle.manifest_model.specs.NodeReading.{fsnode_of, unode_of}
use Rattle.manifest_model.proofs.Deletions.{file_at-files_in}
use Rattle.manifest_model.proofs.Nodes.{fsnode_is_read, unode_is_read}
use Rattle.manifest_laws.specs.Entries.{entries_of, fs_entry_at, unode_entry_at, unode_entry_for}
use Rattle.manifest_laws.proofs.Changes.{prefix_itself}
use Rattle.manifest_laws.proofs.Flat.{strict_from, strict_under}
use Rattle.manifest_laws.proofs.Fsnodes as fsnodes
use Rattle.manifest_laws.proofs.Lists.{none_some}
use Rattle.byte_fields.proofs.Booleans.{same_some}
use Rattle.manifest_laws.proofs.Rules.{fsnode_kept}
use Rattle.merge_laws.specs.Joined.{dirs_differ, files_differ}
use Rattle.merge_laws.specs.Resolved.{AreResolved, AreAllApart, has_dir}
use Rattle.merge_laws.proofs.FsTold.{was_either}
use Rattle.merge_laws.proofs.Trees.{Files, file_under, dir_from, no_file_at}
use Rattle.merge_laws.proofs.UnodeEntries.{dir_made, dir_of_first, dir_of_second, entry_there, file_made, file_of_first, file_of_second}
use Rattle.fsnode.specs.Lookup.{entry_named as fs_named}
use Rattle.fsnode.proofs.Named.{found_in as fs_found}
use Rattle.unode.specs.Lookup.{entries_in, entry_named as unode_named}
use Rattle.unode.specs.Views.{file_of}
use Rattle.unode.proofs.Named.{found_in as unode_found}
use Rattle.node_table.specs.Table.{Nodes}
use Rattle.node_table.specs.declared.roots.Roots.{Roots}
use Rattle.derive_step.specs.declared.job.DirIds.{DirIds}
use Rattle.derive_step.specs.Views.{Before}
use Rattle.derive_step.specs.Pasts.{nodes_in_past, roots_of, all_nodes_of}
use Rattle.derive_step.proofs.Members.{has_contains}
use Rattle.derive_step.proofs.PastNodes.{has_fsnode, has_dir_node}
use Rattle.manifest_store.specs.Manifests.{HoldsAll, IsRight}
use Rattle.manifest_store.specs.Nodes.{fsnode_under, manifest_of, manifest_under, entry_of, fs_entry_under, unode_entry_under, walk, dir_under, both_dirs, child_under, dir_from as gathered_from}

pub no_walk : (look : Id → List ℕ → Option UnodeEntry) (x : Id) (p : Path) → 0 < length p → None ≡ walk look (UnodeFile x) p
no_walk look x [] some = absurd (omega arith)
no_walk look x (n ∷ p) some = refl

-- ---- nothing is under what is no directory

strict_more : (d : Path) (x : List ℕ) (p : Path) → is_strict_prefix d (d ++ x ∷ p) ≡ true
strict_more d x p = strict_from d (d ++ x ∷ p) (prefix_itself d (x ∷ p)) (let long = length-append d (x ∷ p) in omega arith)

deep : (d : Path) (x : List ℕ) (p : Path) → (length (d ++ x ∷ p) == 0) ≡ false
deep d x p = ne_eqb (length (d ++ x ∷ p)) 0 (λ e. let long = length-append d (x ∷ p) in omega arith)

pub gone_dir : (fs : Files) (d : Path) → is_dir fs d ≡ false → (x : List ℕ) (p : Path) → is_dir fs (d ++ x ∷ p) ≡ false
gone_dir fs d none x p = false_from_ne_true (is_dir fs (d ++ x ∷ p)) (λ dir.
    let found = file_under fs (d ++ x ∷ p) (deep d x p) dir in
    true≢false (sym (dir_from fs d found.0 found.1 (strict_under d (d ++ x ∷ p) found.0 (prefix_itself d (x ∷ p)) found.2) found.3) ∙ none))

pub gone_file : (past : Past) (d : Path) → is_dir (files_in past) d ≡ false → (x : List ℕ) (p : Path) → tree_of past (d ++ x ∷ p) ≡ None
gone_file past d none x p = by (tree_of past (d ++ x ∷ p)) refl
  where
    by : (o : Option File) → tree_of past (d ++ x ∷ p) ≡ o → o ≡ None
    by None e = refl
    by (Some f) e = absurd (true≢false (sym (dir_from (files_in past) d (d ++ x ∷ p) f (strict_more d x p) (file_at-files_in past (d ++ x ∷ p) ∙ e)) ∙ none))

-- ---- a directory's unode is a manifest, and a file's is a file's

pub is_manifest : (past : Past) (d : Path) → AreResolved past → has_dir past d ≡ true → manifest_of (unode_at past d) ≡ Some (unode_at past d)
is_manifest Begin d all dir = absurd (true≢false (sym dir))
is_manifest (At c first second) d all dir = by (is_manifest first d all.1) (is_manifest second d all.2) (is_renewed c.changeset d || dirs_differ first second d) refl
  where
    u : Unode
    u = unode_at (At c first second) d

    same : (v : Unode) → unode_at (At c first second) d ≡ v → manifest_of v ≡ Some v → manifest_of (unode_at (At c first second) d) ≡ Some (unode_at (At c first second) d)
    same v e is = ap manifest_of e ∙ is ∙ ap Some (sym e)

    left_by : (has_dir first d ≡ true → manifest_of (unode_at first d) ≡ Some (unode_at first d)) → (has_dir second d ≡ true → manifest_of (unode_at second d) ≡ Some (unode_at second d))
        → (is_renewed c.changeset d || dirs_differ first second d) ≡ false → (a b : Bool) → has_dir first d ≡ a → has_dir second d ≡ b → manifest_of (unode_at (At c first second) d) ≡ Some (unode_at (At c first second) d)
    left_by one two old true b h k = same (unode_at first d) (dir_of_first c first second all d dir old h) (one h)
    left_by one two old false true h k = same (unode_at second d) (dir_of_second c first second all d dir old h k) (two k)
    left_by one two old false false h k =
        let still = (or_parts (is_renewed c.changeset d) (dirs_differ first second d) old).0 in
        absurd (true≢false (sym (was_either c first second d all still dir) ∙ (λ i. h i || k i)))

    by : (has_dir first d ≡ true → manifest_of (unode_at first d) ≡ Some (unode_at first d)) → (has_dir second d ≡ true → manifest_of (unode_at second d) ≡ Some (unode_at second d))
        → (b : Bool) → (is_renewed c.changeset d || dirs_differ first second d) ≡ b → manifest_of (unode_at (At c first second) d) ≡ Some (unode_at (At c first second) d)
    by one two true new = let made = dir_made c first second all d dir new in ap manifest_of made ∙ ap Some (sym made)
    by one two false old = left_by one two old (has_dir first d) (has_dir second d) refl refl

-- ---- a file's unode was made by the changeset, or it is the one that a parent has

pub filed : (past : Past) (p : Path) (o : Option File) → tree_of past p ≡ o → is_file (files_in past) p ≡ is_some o
filed past p o e = ap is_some (file_at-files_in past p ∙ e)

pub some_of : (o : Option File) → is_some o ≡ true → (f : File) × (o ≡ Some f)
some_of None h = absurd (true≢false (sym h))
some_of (Some f) h = (f, refl)

none_set : (o : Option File) → is_some o ≡ false → (f : File) → o ≡ Some f → ⊥
none_set None e f h = absurd cc
none_set (Some g) e f h = absurd (true≢false e)

-- a file that isn't set is one of a parent
was_file : (c : Known) (first second : Past) (p : Path) (f : File) → is_some (set_at c.changeset p) ≡ false → tree_of (At c first second) p ≡ Some f → option_or (tree_of first p) (tree_of second p) ≡ Some f
was_file c first second p f unset e = by (decides c.changeset p) e
  where
    by : (b : Bool) → cond b (set_at c.changeset p) (option_or (tree_of first p) (tree_of second p)) ≡ Some f → option_or (tree_of first p) (tree_of second p) ≡ Some f
    by true e = absurd (none_set (set_at c.changeset p) unset f e)
    by false e = e

abbrev pub is_new_at : Known → (first second : Past) → Path → Bool
is_new_at c first second p = is_some (set_at c.changeset p) || files_differ first second p

module _ {P : Type 0} (c : Known) (first second : Past) (p : Path) (f : File) (there : tree_of (At c first second) p ≡ Some f)
    (new : is_new_at c first second p ≡ true → P)
    (of_first : is_new_at c first second p ≡ false → (g : File) → tree_of first p ≡ Some g → unode_at (At c first second) p ≡ unode_at first p → P)
    (of_second : is_new_at c first second p ≡ false → tree_of first p ≡ None → (g : File) → tree_of second p ≡ Some g → unode_at (At c first second) p ≡ unode_at second p → P) where
  kept_by : is_new_at c first second p ≡ false → (o q : Option File) → tree_of first p ≡ o → tree_of second p ≡ q → option_or o q ≡ Some f → P
  kept_by old (Some g) q h k e = of_first old g h (file_of_first c first second p f there old (filed first p (Some g) h))
  kept_by old None None h k e = absurd cc
  kept_by old None (Some g) h k e = of_second old h g k (file_of_second c first second p f there old (filed first p None h) (filed second p (Some g) k))

  made_by : (b : Bool) → is_new_at c first second p ≡ b → P
  made_by true e = new e
  made_by false e = kept_by e (tree_of first p) (tree_of second p) refl refl (was_file c first second p f (or_parts (is_some (set_at c.changeset p)) (files_differ first second p) e).0 there)

  pub file_cases : P
  file_cases = made_by (is_new_at c first second p) refl

pub is_file_node : (past : Past) (p : Path) (f : File) → tree_of past p ≡ Some f → file_of (unode_at past p) ≡ Some (unode_at past p)
is_file_node Begin p f e = none_some f e
is_file_node (At c first second) p f e =
    file_cases c first second p f e
    (λ new. let made = file_made c first second p f e new in ap file_of made ∙ ap Some (sym made))
    (λ old g h same. ap file_of same ∙ is_file_node first p g h ∙ ap Some (sym same))
    (λ old none g h same. ap file_of same ∙ is_file_node second p g h ∙ ap Some (sym same))

-- ---- down a path

module _ (past : Past) (look : Id → List ℕ → Option UnodeEntry) (node : Path → Id) (leaf : Path → File → Id) where
  -- the entry of a path, if a directory or a file is there
  abbrev pub entry_if : Bool → Option File → Path → Option UnodeEntry
  entry_if b o p = cond b (Some (UnodeDir (node p))) (option_map (λ f. UnodeFile (leaf p f)) o)

  abbrev pub place : Path → Option UnodeEntry
  place p = entry_if (is_dir (files_in past) p) (tree_of past p) p

  abbrev pub Steps : Type 0
  Steps = (d : Path) (n : List ℕ) → is_dir (files_in past) d ≡ true → look (node d) n ≡ place (d ++ n ∷ [])

  not_there : (d : Path) (n : List ℕ) (p : Path) → is_dir (files_in past) (d ++ n ∷ []) ≡ false → tree_of past (d ++ n ∷ []) ≡ None → place (d ++ n ∷ p) ≡ None
  not_there d n [] out none = λ i. entry_if (out i) (none i) (d ++ n ∷ [])
  not_there d n (x ∷ p) out none =
      ap place (sym (append_assoc d (n ∷ []) (x ∷ p)))
      ∙ (λ i. entry_if (gone_dir (files_in past) (d ++ n ∷ []) out x p i) (gone_file past (d ++ n ∷ []) out x p i) ((d ++ n ∷ []) ++ x ∷ p))

  in_file : (d : Path) (n : List ℕ) (p : Path) (f : File) → is_dir (files_in past) (d ++ n ∷ []) ≡ false → tree_of past (d ++ n ∷ []) ≡ Some f → walk look (UnodeFile (leaf (d ++ n ∷ []) f)) p ≡ place (d ++ n ∷ p)
  in_file d n [] f out here = sym (λ i. entry_if (out i) (here i) (d ++ n ∷ []))
  in_file d n (x ∷ p) f out here =
      sym (ap place (sym (append_assoc d (n ∷ []) (x ∷ p)))
      ∙ (λ i. entry_if (gone_dir (files_in past) (d ++ n ∷ []) out x p i) (gone_file past (d ++ n ∷ []) out x p i) ((d ++ n ∷ []) ++ x ∷ p)))

  pub walk_is : Steps → (p d : Path) → is_dir (files_in past) d ≡ true → walk look (UnodeDir (node d)) p ≡ place (d ++ p)
  walk_is steps [] d dir = sym (ap place (append-nil d) ∙ ap (λ b. entry_if b (tree_of past d) d) dir)
  walk_is steps (n ∷ p) d dir =
      ap (option_and_then (λ e. walk look e p)) (steps d n dir) ∙ on (walk_is steps p) (is_dir (files_in past) (d ++ n ∷ [])) refl (tree_of past (d ++ n ∷ [])) refl
    where
      on : ((d : Path) → is_dir (files_in past) d ≡ true → walk look (UnodeDir (node d)) p ≡ place (d ++ p)) → (b : Bool) → is_dir (files_in past) (d ++ n ∷ []) ≡ b → (o : Option File) → tree_of past (d ++ n ∷ []) ≡ o → option_and_then (λ e. walk look e p) (entry_if b o (d ++ n ∷ [])) ≡ place (d ++ n ∷ p)
      on later true here o e = later (d ++ n ∷ []) here ∙ ap place (append_assoc d (n ∷ []) p)
      on later false out (Some f) e = in_file d n p f out e
      on later false out None e = sym (not_there d n p out e)

-- ---- the two manifests

listed : (u : Unode) → entries_in u ≡ entries_of u
listed (Manifest parents linknode entries) = refl
listed (FileUnode parents content kind path_hash linknode) = refl

abbrev pub fs_node : Past → Path → Id
fs_node past d = fsnode_id (fsnode (files_in past) d)

abbrev pub fs_leaf : Path → File → Id
fs_leaf p f = f.content

abbrev pub un_node : Past → Path → Id
un_node past p = unode_id (unode_at past p)

abbrev pub un_leaf : Past → Path → File → Id
un_leaf past p f = unode_id (unode_at past p)

abbrev pub fs_place : Past → Path → Option UnodeEntry
fs_place past p = entry_if past (λ x n. None) (fs_node past) fs_leaf (is_dir (files_in past) p) (tree_of past p) p

abbrev pub un_place : Past → Path → Option UnodeEntry
un_place past p = entry_if past (λ x n. None) (un_node past) (un_leaf past) (is_dir (files_in past) p) (tree_of past p) p

module _ (m : Nodes) (c : Known) (first second : Past) (right : IsRight (At c first second)) (held : HoldsAll m (At c first second)) where
  abbrev pub all : Past
  all = At c first second

  abbrev pub now : List (Path × File)
  now = files_in (At c first second)

  pub fsnode_there : (d : Path) → is_dir now d ≡ true → fsnode_under m (fs_node all d) ≡ Some (fsnode now d)
  fsnode_there d dir =
      ap (option_and_then (λ bytes. result_ok (fsnode_of bytes))) (held (fsnode_bytes (fsnode now d)) (has_contains (all_nodes_of all) (fsnode_bytes (fsnode now d)) (has_fsnode c first second d dir)))
      ∙ ap result_ok (fsnode_is_read (fsnode now d) (fsnode_kept now d right.counted))

  pub unode_there : (d : Path) → is_dir now d ≡ true → manifest_under m (un_node all d) ≡ Some (unode_at all d)
  unode_there d dir =
      ap (option_and_then (λ bytes. option_and_then manifest_of (result_ok (unode_of bytes)))) (held (unode_bytes (unode_at all d)) (has_contains (all_nodes_of all) (unode_bytes (unode_at all d)) (has_dir_node c first second d dir)))
      ∙ ap (λ r. option_and_then manifest_of (result_ok r)) (unode_is_read (unode_at all d) (right.directories d dir))
      ∙ is_manifest all d right.resolved dir

  no_both : {P : Type 0} (p : Path) (f : File) → tree_of all p ≡ Some f → is_dir now p ≡ true → P
  no_both p f e dir = none_some f (sym (no_file_at all p right.resolved dir) ∙ e)

  pub fs_steps : Steps all (fs_entry_under m) (fs_node all) fs_leaf
  fs_steps d n dir =
      ap (option_and_then (λ bytes. option_map entry_of (fs_named bytes n))) (held (fsnode_bytes (fsnode now d)) (has_contains (all_nodes_of all) (fsnode_bytes (fsnode now d)) (has_fsnode c first second d dir)))
      ∙ ap (option_map entry_of) (fs_found (fsnode_bytes (fsnode now d)) n (fsnode now d) (fsnode_is_read (fsnode now d) (fsnode_kept now d right.counted)))
      ∙ by (is_dir now (d ++ n ∷ [])) refl (tree_of all (d ++ n ∷ [])) refl
    where
      by : (b : Bool) → is_dir now (d ++ n ∷ []) ≡ b → (o : Option File) → tree_of all (d ++ n ∷ []) ≡ o → option_map entry_of (fs_entry_at (fsnode now d) n) ≡ entry_if all (fs_entry_under m) (fs_node all) fs_leaf b o (d ++ n ∷ [])
      by true here (Some f) e = no_both (d ++ n ∷ []) f e here
      by true here None e = ap (option_map entry_of) (fsnodes.entry_of_dir now d n (file_at-files_in all (d ++ n ∷ []) ∙ e) here)
      by false here (Some f) e = ap (option_map entry_of) (fsnodes.entry_of_file now d n f (file_at-files_in all (d ++ n ∷ []) ∙ e))
      by false here None e = ap (option_map entry_of) (fsnodes.entry_of_nothing now d n (file_at-files_in all (d ++ n ∷ []) ∙ e) here)

  -- ---- where different nodes have different ids

  module _ (apart : AreAllApart (At c first second)) where
    named_there : (d : Path) (n : List ℕ) → is_dir now d ≡ true → (o : Option File) → tree_of all (d ++ n ∷ []) ≡ o → (b : Bool) → is_dir now (d ++ n ∷ []) ≡ b → unode_entry_at (unode_at all d) n ≡ unode_entry_for o b (un_node all (d ++ n ∷ []))
    named_there d n dir o e b here =
        entry_there all d n right.resolved apart dir
        ∙ (λ i. unode_entry_for ((file_at-files_in all (d ++ n ∷ []) ∙ e) i) (here i) (un_node all (d ++ n ∷ [])))

    pub un_steps : Steps all (unode_entry_under m) (un_node all) (un_leaf all)
    un_steps d n dir =
        ap (option_and_then (λ bytes. unode_named bytes n)) (held (unode_bytes (unode_at all d)) (has_contains (all_nodes_of all) (unode_bytes (unode_at all d)) (has_dir_node c first second d dir)))
        ∙ unode_found (unode_bytes (unode_at all d)) n (unode_at all d) (unode_is_read (unode_at all d) (right.directories d dir))
        ∙ ap (find_key (slice_cmp nat_cmp) n) (listed (unode_at all d))
        ∙ by (is_dir now (d ++ n ∷ [])) refl (tree_of all (d ++ n ∷ [])) refl
      where
        by : (b : Bool) → is_dir now (d ++ n ∷ []) ≡ b → (o : Option File) → tree_of all (d ++ n ∷ []) ≡ o → unode_entry_at (unode_at all d) n ≡ entry_if all (unode_entry_under m) (un_node all) (un_leaf all) b o (d ++ n ∷ [])
        by true here (Some f) e = no_both (d ++ n ∷ []) f e here
        by true here None e = named_there d n dir None e true here
        by false here (Some f) e = named_there d n dir (Some f) e false here
        by false here None e = named_there d n dir None e false here

    -- ---- both nodes of directories

    abbrev pub both : Path → DirIds
    both d = record { fsnode = fs_node all d; unode = un_node all d }

    dir_there : (d : Path) → is_dir now d ≡ true → dir_under m (both d) ≡ Some (nodes_in_past all d)
    dir_there d dir = λ i. option_and_then (λ fsnode. option_map (λ unode. record { fsnode = fsnode; unode = unode; unode_id = un_node all d }) (unode_there d dir i)) (fsnode_there d dir i)

    child_is : (d : Path) (n : List ℕ) → is_dir now d ≡ true → child_under m (nodes_in_past all d) n ≡ cond (is_dir now (d ++ n ∷ [])) (Some (nodes_in_past all (d ++ n ∷ []))) None
    child_is d n dir = by (is_dir now (d ++ n ∷ [])) refl (tree_of all (d ++ n ∷ [])) refl
      where
        by : (b : Bool) → is_dir now (d ++ n ∷ []) ≡ b → (o : Option File) → tree_of all (d ++ n ∷ []) ≡ o → child_under m (nodes_in_past all d) n ≡ cond b (Some (nodes_in_past all (d ++ n ∷ []))) None
        by true here (Some f) e = no_both (d ++ n ∷ []) f e here
        by true here None e =
            ap (option_and_then (dir_under m)) (λ i. both_dirs (fsnodes.entry_of_dir now d n (file_at-files_in all (d ++ n ∷ []) ∙ e) here i) (named_there d n dir None e true here i))
            ∙ dir_there (d ++ n ∷ []) here
        by false here (Some f) e = ap (λ o. option_and_then (dir_under m) (both_dirs o (unode_entry_at (unode_at all d) n))) (fsnodes.entry_of_file now d n f (file_at-files_in all (d ++ n ∷ []) ∙ e))
        by false here None e = ap (λ o. option_and_then (dir_under m) (both_dirs o (unode_entry_at (unode_at all d) n))) (fsnodes.entry_of_nothing now d n (file_at-files_in all (d ++ n ∷ []) ∙ e) here)

    abbrev pub spot : Path → Option Before
    spot p = cond (is_dir now p) (Some (nodes_in_past all p)) None

    pub dirs_are : (p d : Path) → is_dir now d ≡ true → gathered_from m (nodes_in_past all d) p ≡ spot (d ++ p)
    dirs_are [] d dir = sym (ap spot (append-nil d) ∙ ap (λ b. cond b (Some (nodes_in_past all d)) None) dir)
    dirs_are (n ∷ p) d dir = ap (option_and_then (λ b. gathered_from m b p)) (child_is d n dir) ∙ on (dirs_are p) (is_dir now (d ++ n ∷ [])) refl
      where
        none_under : (p : Path) → is_dir now (d ++ n ∷ []) ≡ false → None ≡ spot (d ++ n ∷ p)
        none_under [] out = sym (ap (λ b. cond b (Some (nodes_in_past all (d ++ n ∷ []))) None) out)
        none_under (x ∷ p) out = sym (ap spot (sym (append_assoc d (n ∷ []) (x ∷ p))) ∙ ap (λ b. cond b (Some (nodes_in_past all ((d ++ n ∷ []) ++ x ∷ p))) None) (gone_dir now (d ++ n ∷ []) out x p))

        on : ((d : Path) → is_dir now d ≡ true → gathered_from m (nodes_in_past all d) p ≡ spot (d ++ p)) → (b : Bool) → is_dir now (d ++ n ∷ []) ≡ b → option_and_then (λ b. gathered_from m b p) (cond b (Some (nodes_in_past all (d ++ n ∷ []))) None) ≡ spot (d ++ n ∷ p)
        on later true here = later (d ++ n ∷ []) here ∙ ap spot (append_assoc d (n ∷ []) p)
        on later false out = none_under p out

    pub root_there : dir_under m (both []) ≡ Some (nodes_in_past all [])
    root_there = dir_there [] refl

-- ---- of a past whose roots these are

pub fs_walked : (m : Nodes) (past : Past) → IsRight past → HoldsAll m past → (r : Roots) → Some r ≡ roots_of past → (p : Path) → walk (fs_entry_under m) (UnodeDir r.fsnode) p ≡ fs_place past p
fs_walked m Begin right held r e p = absurd cc
fs_walked m (At c first second) right held r e p =
    ap (λ (r : Roots). walk (fs_entry_under m) (UnodeDir r.fsnode) p) (same_some r _ e)
    ∙ walk_is (At c first second) (fs_entry_under m) (fs_node (At c first second)) fs_leaf (fs_steps m c first second right held) p [] refl

pub un_walked : (m : Nodes) (past : Past) → IsRight past → HoldsAll m past → AreAllApart past → (r : Roots) → Some r ≡ roots_of past → (p : Path) → walk (unode_entry_under m) (UnodeDir r.unode) p ≡ un_place past p
un_walked m Begin right held apart r e p = absurd cc
un_walked m (At c first second) right held apart r e p =
    ap (λ (r : Roots). walk (unode_entry_under m) (UnodeDir r.unode) p) (same_some r _ e)
    ∙ walk_is (At c first second) (unode_entry_under m) (un_node (At c first second)) (un_leaf (At c first second)) (un_steps m c first second right held apart) p [] refl
