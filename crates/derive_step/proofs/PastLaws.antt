-- The nodes of a directory that a changeset touches, from those of both parents.
use Rattle.std.proofs.Common.{◌≡◌, ℕ, ◌<◌, ◌^◌, Bool, true, false, cond, not, ◌&&◌, ◌||◌, List, [], ◌∷◌, ◌++◌, length, refl, sym, ap, ◌∙◌, arith}
use Rattle.std.specs.Prelude.{Option, Some, None, nat_lt, bytes_eq}
use mathlib.Core.Bool.{true≢false}
use Rattle.std.specs.List.{list_any, list_all}
use Rattle.std.specs.BTreeMap.{BTreeMap}
use Rattle.std.specs.FinMap.{is_sorted, find as find_key}
use Rattle.std.proofs.lemmas.Bool.{and_parts, or_left, or_right, ne_eqb}
use Rattle.changeset_model.specs.Path.{Path, path_cmp, is_path, is_strict_prefix, is_element}
use Rattle.changeset_model.specs.Changeset.{File, FileChange, is_change}
use Rattle.changeset_model.proofs.Spelling.{bytes_eq_refl}
use Rattle.history_model.specs.History.{Known}
use Rattle.history_model.specs.Past.{Past, Begin, At}
use Rattle.history_model.specs.Tree.{file_at, files_in, is_dir, tree_of}
use Rattle.manifest_model.specs.Fsnode.{Fsnode, FsEntry, FsFile, FsDir, fs_dir, fsnode, fsnode_id, is_fsnode, are_entries, is_summary, is_fs_entry}
use Rattle.manifest_model.specs.Unode.{Manifest, UnodeEntry, UnodeFile, UnodeDir, unode_id, is_renewed}
use Rattle.manifest_model.specs.Merged.{unode_at}
use Rattle.manifest_model.proofs.Deletions.{file_at-files_in}
use Rattle.manifest_model.proofs.Derivations.{or_case as or_either}
use Rattle.manifest_laws.specs.Changes.{is_covered}
use Rattle.manifest_laws.specs.Summaries.{summary_by}
use Rattle.manifest_laws.specs.Entries.{fs_entry_at, entries_of, file_of_entry, is_dir_entry, is_dir_unode_entry, unode_entry_at}
use Rattle.manifest_laws.specs.EntryEdits.{fs_made, is_fs_file, is_unode_file}
use Rattle.manifest_laws.proofs.Directories.{empty_is}
use Rattle.manifest_laws.proofs.Bounds.{changes_of}
use Rattle.manifest_laws.proofs.Entries.{file_by_entry, fs_entries_found}
use Rattle.manifest_laws.proofs.Fsnodes.{entry_is}
use Rattle.manifest_laws.proofs.Lists.{true_and_false}
use Rattle.manifest_laws.proofs.Names.{same_name}
use Rattle.manifest_laws.proofs.PastBounds.{rules_past}
use Rattle.manifest_laws.proofs.Rules.{fsnode_kept}
use Rattle.manifest_laws.proofs.Unodes.{not_root}
use Rattle.merge_laws.specs.Resolved.{AreResolved, has_dir}
use Rattle.merge_laws.specs.Joined.{dirs_differ, fs_differ, fs_merged, parent_on, parents_of, unode_differ, unode_entry_on, unode_made_on, unode_merged}
use Rattle.merge_laws.proofs.Differences.{dir_id}
use Rattle.merge_laws.proofs.Equal.{id_of, same_fsnode, tells_dir as unode_tells_dir}
use Rattle.merge_laws.proofs.FsMerge.{fs_entry_for}
use Rattle.merge_laws.proofs.FsTold.{fs_entry_after_merge, has, node_by, rest_of, tells_dir as fs_tells_dir}
use Rattle.merge_laws.proofs.Trees.{alone, edits_rise, file_under, flat, rises, rules_of}
use Rattle.merge_laws.proofs.UnodeEntries.{dir_made, entries_found, entry_on, uncovered_dir, unode_entry_after_merge}
use Rattle.merge_laws.proofs.UnodeMerge.{seen_on}
use Rattle.fsnode.specs.declared.node.Fsnode.{Fsnode as RustFsnode}
use Rattle.fsnode.specs.Parts.{summary_seen, children_seen as fs_children_seen}
use Rattle.fsnode.specs.Views.{fsnode_seen}
use Rattle.unode.specs.declared.manifest.UnodeManifest.{UnodeManifest}
use Rattle.unode.specs.Parts.{parents_seen, children_seen as unode_children_seen}
use Rattle.unode.specs.Views.{manifest_seen}
use Rattle.derive_step.specs.declared.made.Made.{Made}
use Rattle.derive_step.specs.Views.{Before}
use Rattle.derive_step.specs.Pasts.{IsSound, is_touched, nodes_in_past, nodes_of}
use Rattle.derive_step.specs.Join.{joined_by, made_at}
use Rattle.derive_step.specs.Steps.{fs_made_in, fs_before, fs_after, fs_join, fs_set, fsnodes_before, unode_made_in, unode_before, unode_after, unode_join, unode_set, unodes_before}
use Rattle.derive_step.specs.Renewal.{IsMadeUnder, IsBefore, fsnode_part, is_touched_under, parent_part, unode_part}
use Rattle.derive_step.proofs.Entries.{by_name}
use Rattle.derive_step.proofs.Joining.{fs_sides_joined, made_asked, unode_sides_joined}
use Rattle.derive_step.proofs.Paths.{path_front}

-- ---- the nodes of a parent

-- a directory that isn't there has no entries
no_entry : (fs : List (Path × File)) (d : Path) (n : List ℕ) → is_dir fs d ≡ false → fs_entry_at (fsnode fs d) n ≡ None
no_entry fs [] n h = absurd (true≢false h)
no_entry fs (e ∷ d) n h = ap (find_key by_name n) ((empty_is fs (e ∷ d) (ne_eqb (length (e ∷ d)) 0 (λ h. absurd (omega arith)))).1 h)

nothing_at_first : (d : Path) (n : List ℕ) → fs_entry_at (fsnode [] d) n ≡ None
nothing_at_first [] n = refl
nothing_at_first (e ∷ d) n = no_entry [] (e ∷ d) n (ap (λ b. b || false) (ne_eqb (length (e ∷ d)) 0 (λ h. absurd (omega arith))))

fs_on : (past : Past) (d : Path) (n : List ℕ) → fs_before (fsnode_part (nodes_of past d)) n ≡ fs_entry_at (fsnode (files_in past) d) n
fs_on Begin d n = sym (nothing_at_first d n)
fs_on (At k first second) d n = by (is_dir (files_in (At k first second)) d) refl
  where
    by : (b : Bool) → is_dir (files_in (At k first second)) d ≡ b → fs_before (fsnode_part (cond b (Some (nodes_in_past (At k first second) d)) None)) n ≡ fs_entry_at (fsnode (files_in (At k first second)) d) n
    by true h = refl
    by false h = sym (no_entry (files_in (At k first second)) d n h)

unode_on : (past : Past) (d : Path) (n : List ℕ) → unode_before (unode_part (nodes_of past d)) n ≡ unode_entry_on past d n
unode_on past d n = by (has_dir past d)
  where
    by : (b : Bool) → unode_before (unode_part (cond b (Some (nodes_in_past past d)) None)) n ≡ cond b (unode_entry_at (unode_at past d) n) None
    by true = refl
    by false = refl

parents_are : (past : Past) (d : Path) → parent_part (nodes_of past d) ≡ parent_on past d
parents_are past d = by (has_dir past d)
  where
    by : (b : Bool) → parent_part (cond b (Some (nodes_in_past past d)) None) ≡ cond b (unode_id (unode_at past d) ∷ []) []
    by true = refl
    by false = refl

pub is_before : (c : Known) (past : Past) (d : Path) (b : Option Before) → b ≡ cond (is_covered c.changeset d) None (nodes_of past d) → IsBefore c past d b
is_before c past d b e = record {
  fsnode = λ n. ap (λ o. fs_before (fsnode_part o) n) e ∙ fs_by n (is_covered c.changeset d);
  unode = λ out n. ap (λ o. unode_before (unode_part o) n) e ∙ ap (λ v. unode_before (unode_part (cond v None (nodes_of past d))) n) out ∙ unode_on past d n;
  parent = λ out. ap parent_part e ∙ ap (λ v. parent_part (cond v None (nodes_of past d))) out ∙ parents_are past d;
}
  where
    fs_by : (n : List ℕ) (v : Bool) → fs_before (fsnode_part (cond v None (nodes_of past d))) n ≡ cond v None (fs_entry_at (fsnode (files_in past) d) n)
    fs_by n true = refl
    fs_by n false = fs_on past d n

-- ---- rules

entries_rise : {E : Type 0} (xs : List (List ℕ × E)) → are_entries xs ≡ true → is_sorted by_name xs ≡ true
entries_rise xs h = (and_parts (nat_lt (length xs) (2 ^ 32) && list_all (λ e. is_element e.0) xs) (is_sorted by_name xs) h).1

summary_rule : (n : Fsnode) → is_fsnode n ≡ true → is_summary n.summary ≡ true
summary_rule n h = (and_parts (is_summary n.summary) (are_entries n.entries) (and_parts (is_summary n.summary && are_entries n.entries) (list_all (λ e. is_fs_entry e.1) n.entries) h).0).0

-- ---- both parents have different directories under a name

fs_dirs : (a b : Option FsEntry) → fs_differ a b ≡ true → (is_dir_entry a ≡ true) × (is_dir_entry b ≡ true)
fs_dirs (Some (FsDir x s)) (Some (FsDir y t)) h = (refl, refl)
fs_dirs (Some (FsDir x s)) (Some (FsFile g)) h = absurd (true≢false (sym h))
fs_dirs (Some (FsDir x s)) None h = absurd (true≢false (sym h))
fs_dirs (Some (FsFile f)) b h = absurd (true≢false (sym h))
fs_dirs None b h = absurd (true≢false (sym h))

module _ (c : Known) (first second : Past) (sound : IsSound (At c first second)) where
  abbrev q : Past
  q = At c first second

  abbrev now : List (Path × File)
  now = files_in (At c first second)

  abbrev es : List (Path × FileChange)
  es = c.changeset.changes

  pub rise : is_sorted path_cmp es ≡ true
  rise = edits_rise c.changeset sound.resolved.0.rules

  pub file_path : (p : Path) (f : File) → tree_of q p ≡ Some f → is_path p ≡ true
  file_path p f e = (rules_past q (rules_of q sound.resolved) p f e).path

  pub dir_path : (d : Path) (n : List ℕ) → is_dir now (d ++ n ∷ []) ≡ true → is_path (d ++ n ∷ []) ≡ true
  dir_path d n dir =
      let found = file_under now (d ++ n ∷ []) (not_root d n) dir in
      let rest = rest_of (d ++ n ∷ []) found.0 found.2 in
      path_front (d ++ n ∷ []) (rest.0 ∷ rest.1) (ap is_path (sym rest.2) ∙ file_path found.0 found.1 (sym (file_at-files_in q found.0) ∙ found.3)) (some d n) (omega arith)
    where
      some : (d : Path) (n : List ℕ) → 0 < length (d ++ n ∷ [])
      some [] n = omega arith
      some (e ∷ d) n = omega arith

  -- a path above one that is changed may stand in a changeset
  pub path_above : (p : Path) → 0 < length p → list_any (λ e. is_strict_prefix p e.0) es ≡ true → is_path p ≡ true
  path_above p some h = by es (changes_of c.changeset sound.resolved.0.rules) h
    where
      rule : Path × FileChange → Bool
      rule e = is_path e.0 && is_change c.changeset.version (length c.changeset.parents) e.1

      by : (es : List (Path × FileChange)) → list_all rule es ≡ true → list_any (λ e. is_strict_prefix p e.0) es ≡ true → is_path p ≡ true
      by [] rules h = absurd (true≢false (sym h))
      by (e ∷ es) rules h =
          let parts = and_parts (rule e) (list_all rule es) rules in
          or_either (is_strict_prefix p e.0) (list_any (λ e. is_strict_prefix p e.0) es)
          (λ under. (let rest = rest_of p e.0 under in path_front p (rest.0 ∷ rest.1) (ap is_path (sym rest.2) ∙ (and_parts (is_path e.0) (is_change c.changeset.version (length c.changeset.parents) e.1) parts.0).0) some (omega arith)))
          (λ later. by es parts.1 later) h

  module _ (d : Path) (n : List ℕ) where
    abbrev p : Path
    p = d ++ n ∷ []

    deep : 0 < length p
    deep = some d
      where
        some : (d : Path) → 0 < length (d ++ n ∷ [])
        some [] = omega arith
        some (e ∷ d) = omega arith

    abbrev is_under : Bool
    is_under = list_any (λ e. is_strict_prefix p e.0) es

    asked : {E : Type 0} (m : Path → Option E) → is_under ≡ true → m p ≡ made_at m p
    asked m h = sym (ap (λ b. cond b (m p) None) (path_above p deep h))

    unrenewed : is_under ≡ false → is_renewed c.changeset p ≡ false
    unrenewed h = λ i. not_root d n i || h i

    -- ---- where both have different directories there, and one is left

    dir_at : (past : Past) → AreResolved past → is_dir_entry (fs_entry_at (fsnode (files_in past) d) n) ≡ is_dir (files_in past) p
    dir_at past all = ap is_dir_entry (entry_is (files_in past) d n) ∙ fs_tells_dir (file_at (files_in past) p) (is_dir (files_in past) p) (fsnode (files_in past) p) (alone (files_in past) (flat past all) p (not_root d n))

    dir_entry : (past : Past) → AreResolved past → is_dir (files_in past) p ≡ true → fs_entry_at (fsnode (files_in past) d) n ≡ Some (fs_dir (fsnode (files_in past) p))
    dir_entry past all dir = entry_is (files_in past) d n ∙ (λ i. fs_entry_for (alone (files_in past) (flat past all) p (not_root d n) dir i) (dir i) (fsnode (files_in past) p))

    same_dirs : has_dir first p ≡ true → has_dir second p ≡ true → dirs_differ first second p ≡ false → unode_id (unode_at first p) ≡ unode_id (unode_at second p)
    same_dirs h k e = same_name (unode_id (unode_at first p)) (unode_id (unode_at second p)) (by (bytes_eq (unode_id (unode_at first p)) (unode_id (unode_at second p))) (sym (λ i. h i && (k i && not (bytes_eq (unode_id (unode_at first p)) (unode_id (unode_at second p))))) ∙ e))
      where
        by : (b : Bool) → not b ≡ false → b ≡ true
        by true h = refl
        by false h = absurd (true≢false h)

    fs_touched : fs_differ (fs_entry_at (fsnode (files_in first) d) n) (fs_entry_at (fsnode (files_in second) d) n) ≡ true → is_dir now p ≡ true → is_touched_under c first second p ≡ true
    fs_touched other dir = by is_under refl (dirs_differ first second p) refl
      where
        dirs : (is_dir_entry (fs_entry_at (fsnode (files_in first) d) n) ≡ true) × (is_dir_entry (fs_entry_at (fsnode (files_in second) d) n) ≡ true)
        dirs = fs_dirs (fs_entry_at (fsnode (files_in first) d) n) (fs_entry_at (fsnode (files_in second) d) n) other

        one : is_dir (files_in first) p ≡ true
        one = sym (dir_at first sound.resolved.1) ∙ dirs.0

        two : is_dir (files_in second) p ≡ true
        two = sym (dir_at second sound.resolved.2) ∙ dirs.1

        not_other : fsnode (files_in first) p ≡ fsnode (files_in second) p → ⊥
        not_other same = true_and_false (fs_differ (fs_entry_at (fsnode (files_in first) d) n) (fs_entry_at (fsnode (files_in second) d) n)) other
            ((λ i. fs_differ (dir_entry first sound.resolved.1 one i) (dir_entry second sound.resolved.2 two i))
            ∙ ap (λ x. cond (bytes_eq (fsnode_id (fsnode (files_in first) p)) x) false true) (sym (ap fsnode_id same))
            ∙ ap (λ b. cond b false true) (bytes_eq_refl (fsnode_id (fsnode (files_in first) p))))

        by : (u : Bool) → is_under ≡ u → (b : Bool) → dirs_differ first second p ≡ b → is_touched_under c first second p ≡ true
        by true h b e = or_left is_under (dirs_differ first second p) h
        by false h true e = or_right is_under (dirs_differ first second p) e
        by false h false e =
            let l = has first p (not_root d n) one in
            let r = has second p (not_root d n) two in
            absurd (not_other (same_fsnode c first second p sound.resolved sound.apart (unrenewed h) dir l r (same_dirs l r e)))

    fs_made_is : (made : BTreeMap Path Made) → IsMadeUnder c first second made d → is_touched_under c first second p ≡ true → is_path p ≡ true → made_at (fs_made_in made) p ≡ fs_made now p
    fs_made_is made under touched path = ap (λ b. cond b (fs_made_in made p) None) path ∙ (under n touched).0

    pub fs_entries : (made : BTreeMap Path Made) (a b : Option Before) → IsBefore c first d a → IsBefore c second d b → IsMadeUnder c first second made d
        → joined_by (fs_join (made_at (fs_made_in made) p)) (fs_after made d es (fsnodes_before (fsnode_part a) (fsnode_part b)) n) ≡ fs_entry_at (fsnode now d) n
    fs_entries made a b one two under =
        let k = made_at (fs_made_in made) p in
        let had = fsnodes_before (fsnode_part a) (fsnode_part b) n in
        ap (joined_by (fs_join k)) (made_asked (fs_set p) is_fs_file (fs_made_in made p) k p es had rise (asked (fs_made_in made)))
        ∙ fs_sides_joined p k es had rise
        ∙ (λ i. fs_merged k p es (one.fsnode n i) (two.fsnode n i))
        ∙ fs_entry_after_merge c first second d n k sound.resolved sound.apart.0
        (λ h. fs_made_is made under (or_left is_under (dirs_differ first second p) h) (path_above p deep h))
        (λ other dir. fs_made_is made under (fs_touched other dir) (dir_path d n dir))

    -- ---- the same for unodes

    unode_dirs : (a b : Option UnodeEntry) → unode_differ a b ≡ true → (is_dir_unode_entry a ≡ true) × (is_dir_unode_entry b ≡ true) × (bytes_eq (id_of a) (id_of b) ≡ false)
    unode_dirs (Some (UnodeDir x)) (Some (UnodeDir y)) h = (refl, refl, by (bytes_eq x y) h)
      where
        by : (b : Bool) → cond b false true ≡ true → b ≡ false
        by true h = absurd (true≢false (sym h))
        by false h = refl
    unode_dirs (Some (UnodeDir x)) (Some (UnodeFile y)) h = absurd (true≢false (sym h))
    unode_dirs (Some (UnodeDir x)) None h = absurd (true≢false (sym h))
    unode_dirs (Some (UnodeFile x)) b h = absurd (true≢false (sym h))
    unode_dirs None b h = absurd (true≢false (sym h))

    seen_dir : (past : Past) → AreResolved past → is_dir_unode_entry (seen_on past p) ≡ is_dir (files_in past) p
    seen_dir past all = unode_tells_dir (file_at (files_in past) p) (is_dir (files_in past) p) (unode_id (unode_at past p)) (alone (files_in past) (flat past all) p (not_root d n))

    unode_touched : unode_differ (unode_entry_on first d n) (unode_entry_on second d n) ≡ true → is_touched_under c first second p ≡ true
    unode_touched other =
        let seen = sym (λ i. unode_differ (entry_on first d n sound.resolved.1 sound.apart.1 i) (entry_on second d n sound.resolved.2 sound.apart.2 i)) ∙ other in
        let dirs = unode_dirs (seen_on first p) (seen_on second p) seen in
        let one = sym (seen_dir first sound.resolved.1) ∙ dirs.0 in
        let two = sym (seen_dir second sound.resolved.2) ∙ dirs.1 in
        let apart = (λ i. bytes_eq (sym (dir_id first p (not_root d n) sound.resolved.1 one) i) (sym (dir_id second p (not_root d n) sound.resolved.2 two) i)) ∙ dirs.2 in
        or_right is_under (dirs_differ first second p) (λ i. has first p (not_root d n) one i && (has second p (not_root d n) two i && not (apart i)))

    unode_made_is : (made : BTreeMap Path Made) → IsMadeUnder c first second made d → is_touched_under c first second p ≡ true → is_path p ≡ true → made_at (unode_made_in made) p ≡ unode_made_on q p
    unode_made_is made under touched path = ap (λ b. cond b (unode_made_in made p) None) path ∙ (under n touched).1

    abbrev pub file_here : Option File
    file_here = file_of_entry (fs_entry_at (fsnode now d) n)

    pub file_here_path : (f : File) → file_here ≡ Some f → is_path p ≡ true
    file_here_path f e = file_path p f (sym (file_at-files_in q p) ∙ file_by_entry now d n ∙ e)

    pub unode_entries : (made : BTreeMap Path Made) (a b : Option Before) → IsBefore c first d a → IsBefore c second d b → IsMadeUnder c first second made d → is_dir now d ≡ true
        → joined_by (unode_join c.id p file_here (made_at (unode_made_in made) p)) (unode_after c.id made d es (unodes_before (unode_part a) (unode_part b)) n) ≡ unode_entry_at (unode_at q d) n
    unode_entries made a b one two under dir =
        let k = made_at (unode_made_in made) p in
        let had = unodes_before (unode_part a) (unode_part b) n in
        let out = uncovered_dir c first second d sound.resolved dir in
        ap (joined_by (unode_join c.id p file_here k)) (made_asked (unode_set c.id p) is_unode_file (unode_made_in made p) k p es had rise (asked (unode_made_in made)))
        ∙ unode_sides_joined c.id p file_here file_here_path k es had rise
        ∙ (λ i. unode_merged c.id file_here k p es (one.unode out n i) (two.unode out n i))
        ∙ unode_entry_after_merge c first second d n k sound.resolved sound.apart dir
        (λ h. unode_made_is made under (or_left is_under (dirs_differ first second p) h) (path_above p deep h))
        (λ other there. unode_made_is made under (unode_touched other) (dir_path d n there))

  -- ---- the fsnode

  pub same_node : (d : Path) (node : RustFsnode) → are_entries (fs_children_seen node.entries.items) ≡ true → ((n : List ℕ) → fs_entry_at (fsnode_seen node) n ≡ fs_entry_at (fsnode now d) n)
      → (is_summary (summary_by (fs_children_seen node.entries.items)) ≡ true → summary_seen node.summary ≡ summary_by (fs_children_seen node.entries.items)) → is_dir now d ≡ true → fsnode_seen node ≡ fsnode now d
  same_node d node rule found sums dir =
      let by_entries = node_by q d (fs_children_seen node.entries.items) sound.resolved dir (entries_rise (fs_children_seen node.entries.items) rule) found in
      let summed = ap (λ (n : Fsnode). is_summary n.summary) by_entries ∙ summary_rule (fsnode now d) (fsnode_kept now d sound.counted) in
      (λ i. record { summary = sums summed i; entries = fs_children_seen node.entries.items }) ∙ by_entries

  pub same_entries : (d : Path) (xs : List (List ℕ × FsEntry)) → are_entries xs ≡ true → ((n : List ℕ) → find_key by_name n xs ≡ fs_entry_at (fsnode now d) n) → xs ≡ (fsnode now d).entries
  same_entries d xs rule found = fs_entries_found now d xs (rises q) (entries_rise xs rule) found

  -- ---- the unode

  pub same_unode : (d : Path) (node : UnodeManifest) → is_touched c first second d ≡ true → is_dir now d ≡ true → are_entries (unode_children_seen node.entries.items) ≡ true → ((n : List ℕ) → unode_entry_at (manifest_seen node) n ≡ unode_entry_at (unode_at q d) n)
      → parents_seen node.parents ≡ parents_of first second d → node.linknode ≡ c.id → manifest_seen node ≡ unode_at q d
  same_unode d node touched dir rule found parents link =
      let is = dir_made c first second sound.resolved d dir touched in
      let e = entries_found q d (unode_children_seen node.entries.items) sound.resolved sound.apart dir (entries_rise (unode_children_seen node.entries.items) rule) found ∙ ap entries_of is in
      (λ i. Manifest (parents i) (link i) (e i)) ∙ sym is
