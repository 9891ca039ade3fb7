-- What is noted of a directory, and that its nodes are the definitions'.
use Rattle.std.proofs.Common.{◌≡◌, ℕ, true, false, cond, List, [], ◌∷◌, ◌++◌, length, refl, sym, ap, ◌∙◌, append-nil}
use Rattle.std.specs.Prelude.{Option, Some, None, option_map, bytes_eq, ◌==◌}
use mathlib.Core.Bool.{true≢false}
use Rattle.std.specs.List.{dedup}
use Rattle.std.specs.BTreeMap.{BTreeMap, get, Updates}
use Rattle.byte_fields.specs.Bytes.{Id}
use Rattle.changeset_model.specs.Path.{Path, path_cmp}
use Rattle.changeset_model.specs.Changeset.{Changeset, File, FileChange}
use Rattle.history_model.specs.History.{Known}
use Rattle.history_model.specs.Past.{Past, At}
use Rattle.history_model.specs.Tree.{files_in, is_dir}
use Rattle.manifest_model.specs.Fsnode.{FsEntry, FsDir, fs_dir, fsnode, are_entries, is_summary}
use Rattle.manifest_model.specs.Unode.{UnodeDir, UnodeEntry, unode_id}
use Rattle.manifest_model.specs.Merged.{unode_at}
use Rattle.manifest_model.proofs.Deletions.{file_at-files_in}
use Rattle.manifest_laws.specs.Changes.{is_covered}
use Rattle.manifest_laws.specs.Summaries.{summary_by}
use Rattle.manifest_laws.specs.Entries.{file_of_entry, fs_entry_at, unode_entry_at}
use Rattle.manifest_laws.proofs.Directories.{empty_is}
use Rattle.manifest_laws.proofs.Seen.{one_more as under_dir}
use Rattle.manifest_laws.specs.EntryEdits.{is_fs_file, is_unode_file}
use Rattle.merge_laws.proofs.Trees.{dir_from}
use Rattle.merge_laws.proofs.UnodeEntries.{uncovered_dir}
use Rattle.derive_step.specs.declared.job.DirIds.{DirIds}
use Rattle.node_fields.specs.declared.child.Child.{Child}
use Rattle.fsnode.specs.declared.entry.FsEntry.{FsEntry as RustFsEntry}
use Rattle.fsnode.specs.declared.node.Fsnode.{Fsnode as RustFsnode}
use Rattle.fsnode.specs.Parts.{summary_seen, entry_seen as fs_entry_seen, children_seen as fs_children_seen}
use Rattle.fsnode.specs.Views.{fsnode_seen}
use Rattle.unode.specs.declared.manifest.UnodeManifest.{UnodeManifest}
use Rattle.unode.specs.Parts.{parents_seen, entry_seen as unode_entry_seen, children_seen as unode_children_seen}
use Rattle.unode.specs.Views.{manifest_seen}
use Rattle.derive_step.specs.declared.made.Made.{Made}
use Rattle.derive_step.specs.Views.{Before}
use Rattle.derive_step.specs.Pasts.{IsSound, is_touched, nodes_of}
use Rattle.derive_step.specs.Walk.{Sides}
use Rattle.derive_step.specs.Join.{joined_by, made_at}
use Rattle.derive_step.specs.Steps.{file_now, fs_made_in, fs_after, fs_join, fs_set, fsnodes_before, unode_after, unode_join, unode_made_in, unode_set, unodes_before}
use Rattle.derive_step.specs.Slices.{edits_in}
use Rattle.derive_step.specs.Renewal.{AreIn, ArePutFor, IsDue, IsMadeUnder, IsStep, IsRenewed, fsnode_part, unode_part, parent_part, nodes_there, ids_at}
use Rattle.derive_step.proofs.Above.{by_test}
use Rattle.derive_step.proofs.Edits.{same_in}
use Rattle.derive_step.proofs.FileNodes.{both_on}
use Rattle.derive_step.proofs.PastLaws.{is_before, fs_entries, same_entries, same_node, unode_entries, same_unode, file_here}

none_seen : (cs : List (Child RustFsEntry)) → fs_children_seen cs ≡ [] → cs ≡ []
none_seen [] h = refl
none_seen (x ∷ cs) h = absurd (cc)

-- ---- from the nodes of both parents

pub step_from : (c : Known) (first second : Past) (commit : Changeset) (d : Path) (made : BTreeMap Path Made) (a b : Option Before) → IsDue c first second commit → is_touched c first second d ≡ true → IsMadeUnder c first second made d
    → a ≡ cond (is_covered c.changeset d) None (nodes_of first d) → b ≡ cond (is_covered c.changeset d) None (nodes_of second d) → IsStep c first second commit d made a b
step_from c first second commit d made a b due touched under one two = record { due = due; touched = touched; before_first = is_before c first d a one; before_second = is_before c second d b two; under = under }

pub root_seen : (c : Known) (first second past : Past) (b : Option Before) → IsSound (At c first second) → b ≡ nodes_of past [] → b ≡ cond (is_covered c.changeset []) None (nodes_of past [])
root_seen c first second past b sound e = e ∙ sym (ap (λ v. cond v None (nodes_of past [])) (uncovered_dir c first second [] sound.resolved refl))

pub dir_seen : (c : Known) (past : Past) (d : Path) (b o : Option Before) → b ≡ cond (is_covered c.changeset d) None o → o ≡ nodes_of past d → b ≡ cond (is_covered c.changeset d) None (nodes_of past d)
dir_seen c past d b o e there = e ∙ ap (λ x. cond (is_covered c.changeset d) None x) there

-- ---- by its parts

module _ (c : Known) (first second : Past) (commit : Changeset) (d : Path) (made : BTreeMap Path Made) (a b : Option Before) (step : IsStep c first second commit d made a b)
    (es : List (Path × FileChange)) (are_edits : edits_in d es ≡ edits_in d c.changeset.changes) (node : RustFsnode)
    (found : (n : List ℕ) → fs_entry_at (fsnode_seen node) n ≡ joined_by (fs_join (made_at (fs_made_in made) (d ++ n ∷ []))) (fs_after made d es (fsnodes_before (fsnode_part a) (fsnode_part b)) n))
    (rule : are_entries (fs_children_seen node.entries.items) ≡ true) where
  abbrev q : Past
  q = At c first second

  abbrev now : List (Path × File)
  now = files_in (At c first second)

  sound : IsSound (At c first second)
  sound = step.due.sound

  found_after : (n : List ℕ) → fs_entry_at (fsnode_seen node) n ≡ fs_entry_at (fsnode now d) n
  found_after n =
      found n
      ∙ ap (joined_by (fs_join (made_at (fs_made_in made) (d ++ n ∷ [])))) (same_in fs_set is_fs_file (fs_made_in made) d n es c.changeset.changes (fsnodes_before (fsnode_part a) (fsnode_part b) n) are_edits)
      ∙ fs_entries c first second step.due.sound d n made a b step.before_first step.before_second step.under

  pub files_are : (n : List ℕ) → file_now (fs_children_seen node.entries.items) n ≡ file_here c first second step.due.sound d n
  files_are n = ap file_of_entry (found_after n)

  entries_are : fs_children_seen node.entries.items ≡ (fsnode now d).entries
  entries_are = same_entries c first second step.due.sound d (fs_children_seen node.entries.items) rule found_after

  pub node_is : (is_summary (summary_by (fs_children_seen node.entries.items)) ≡ true → summary_seen node.summary ≡ summary_by (fs_children_seen node.entries.items)) → is_dir now d ≡ true → fsnode_seen node ≡ fsnode now d
  node_is sums dir = same_node c first second step.due.sound d node rule found_after sums dir

  pub not_there : (length d == 0) ≡ false → node.entries.items ≡ [] → is_dir now d ≡ false
  not_there deep empty = (empty_is now d deep).0 (sym entries_are ∙ ap fs_children_seen empty)

  pub there : (length d == 0) ≡ false → (node.entries.items ≡ [] → ⊥) → is_dir now d ≡ true
  there deep some = by_test (is_dir now d) (λ h. h) (λ h. absurd (some (none_seen node.entries.items (entries_are ∙ (empty_is now d deep).1 h))))

  -- ---- where it isn't there

  none_in : is_dir now d ≡ false → AreIn c first second d []
  none_in none = record {
    fsnode = λ dir. absurd (true≢false (sym dir ∙ none));
    unode = λ dir. absurd (true≢false (sym dir ∙ none));
    files = λ n f at new. absurd (true≢false (sym (dir_from now d (d ++ n ∷ []) f (under_dir d n) (file_at-files_in q (d ++ n ∷ []) ∙ at)) ∙ none));
  }

  pub left_out : (put : List (List ℕ)) → is_dir now d ≡ false → get path_cmp made d ≡ None → IsRenewed c first second d made made put put
  left_out put none new = record {
    nodes = record {
      more = [];
      nodes = sym (append-nil put);
      right = tt;
      whole = (none_in none, tt);
      alone = λ one. sym (ap (λ v. cond v (nodes_there c first second d) [] ++ []) none);
    };
    here = (
      ap (option_map (λ x. fs_entry_seen x.fsnode)) new ∙ ap (λ v. cond v (Some (fs_dir (fsnode now d))) None) (sym none),
      ap (option_map (λ x. unode_entry_seen x.unode)) new ∙ ap (λ v. cond v (Some (UnodeDir (unode_id (unode_at q d)))) None) (sym none),
    );
    others = λ p apart. refl;
  }

  -- ---- where it is there

  pub noted : (after : BTreeMap Path Made) (had put : List (List ℕ)) (m : Made) (ids : DirIds) → is_dir now d ≡ true → fsnode_seen node ≡ fsnode now d
      → Updates path_cmp made after d (Some m) → fs_entry_seen m.fsnode ≡ FsDir ids.fsnode (summary_seen node.summary) → unode_entry_seen m.unode ≡ UnodeDir ids.unode
      → ids ≡ ids_at q d → ArePutFor c first second (d ∷ []) had put → IsRenewed c first second d made after had put
  noted after had put m ids dir same updates fs un are puts = record {
    nodes = puts;
    here = (
      ap (option_map (λ x. fs_entry_seen x.fsnode)) updates.1
          ∙ ap Some (fs ∙ (λ i. FsDir (are i).fsnode (same i).summary))
          ∙ ap (λ v. cond v (Some (fs_dir (fsnode now d))) None) (sym dir),
      ap (option_map (λ x. unode_entry_seen x.unode)) updates.1
          ∙ ap Some (un ∙ (λ i. UnodeDir (are i).unode))
          ∙ ap (λ v. cond v (Some (UnodeDir (unode_id (unode_at q d)))) None) (sym dir),
    );
    others = λ p apart. updates.2 p apart;
  }

  module _ (dir : is_dir now d ≡ true) where
    out : is_covered c.changeset d ≡ false
    out = uncovered_dir c first second d step.due.sound.resolved dir

    pub had_is : (n : List ℕ) → unodes_before (unode_part a) (unode_part b) n ≡ both_on c first second step.due.sound d n
    had_is n = λ i. (step.before_first.unode out n i, step.before_second.unode out n i)

  module _ (dir : is_dir now d ≡ true) (link : Id) (is_link : link ≡ c.id) where
    abbrev had_before : List ℕ → Sides UnodeEntry
    had_before = unodes_before (unode_part a) (unode_part b)

    abbrev entries : List (List ℕ × FsEntry)
    entries = fs_children_seen node.entries.items

    pub unode_is : (m : UnodeManifest)
        → ((n : List ℕ) → unode_entry_at (manifest_seen m) n ≡ joined_by (unode_join link (d ++ n ∷ []) (file_now entries n) (made_at (unode_made_in made) (d ++ n ∷ []))) (unode_after link made d es had_before n))
        → are_entries (unode_children_seen m.entries.items) ≡ true → parents_seen m.parents ≡ dedup bytes_eq (parent_part a ++ parent_part b) → m.linknode ≡ link → manifest_seen m ≡ unode_at q d
    unode_is m told rise parents linked =
        same_unode c first second step.due.sound d m step.touched dir rise
        (λ n.
        told n
        ∙ (λ i. joined_by (unode_join (is_link i) (d ++ n ∷ []) (files_are n i) (made_at (unode_made_in made) (d ++ n ∷ []))) (unode_after (is_link i) made d es had_before n))
        ∙ ap (joined_by (unode_join c.id (d ++ n ∷ []) (file_here c first second step.due.sound d n) (made_at (unode_made_in made) (d ++ n ∷ [])))) (same_in (unode_set c.id) is_unode_file (unode_made_in made) d n es c.changeset.changes (had_before n) are_edits)
        ∙ unode_entries c first second step.due.sound d n made a b step.before_first step.before_second step.under dir)
        (parents ∙ (λ i. dedup bytes_eq (step.before_first.parent (out dir) i ++ step.before_second.parent (out dir) i)))
        (linked ∙ is_link)
