-- The entry of a name in an fsnode after a changeset, from the entry before.
use Rattle.std.proofs.Common.{◌≡◌, ℕ, Bool, true, false, cond, not, ◌&&◌, ◌||◌, List, [], ◌∷◌, ◌++◌, length, refl, sym, ap, ◌∙◌}
use Rattle.std.specs.Prelude.{Option, Some, None, option_map, ◌==◌}
use mathlib.Core.Bool.{true≢false}
use Rattle.std.specs.List.{list_any}
use Rattle.std.specs.Option.{option_or, option_and_then}
use Rattle.std.specs.FinMap.{is_sorted, find as find_key}
use Rattle.std.proofs.lemmas.Bool.{false_from_ne_true}
use Rattle.changeset_model.specs.Path.{Path, path_cmp, is_strict_prefix}
use Rattle.changeset_model.specs.Changeset.{File, CopySource, FileChange, Set, Delete, Changeset, file_of, set_at}
use Rattle.history_model.specs.Tree.{decides, tree, files, file_at, is_dir}
use Rattle.manifest_model.specs.Fsnode.{FsEntry, FsFile, FsDir, fs_dir, fsnode}
use Rattle.manifest_model.specs.Unode.{is_renewed}
use Rattle.manifest_model.proofs.Links.{file_at-files}
use Rattle.manifest_laws.specs.Changes.{AreClear, is_covered}
use Rattle.manifest_laws.specs.Entries.{fs_entry_at, file_of_entry, is_dir_entry}
use Rattle.manifest_laws.proofs.Changes.{one_more}
use Rattle.manifest_laws.proofs.Lists.{true_and_false}
use Rattle.manifest_laws.proofs.Flat.{file_under, no_file_above, dir_from}
use Rattle.manifest_laws.proofs.Fsnodes.{entry_of_dir, entry_of_nothing, unreached_entry, unrenewed_node}
use Rattle.manifest_laws.proofs.Unodes.{not_root}
use Rattle.manifest_laws.proofs.Steps.{there_after, set_there, set_entry}
use Rattle.manifest_laws.proofs.Entries.{dir_by_entry, entry_after}
use Rattle.manifest_laws.specs.EntryEdits.{without_file, without_dir, renewed, edited_if, entry_by, fs_set, is_fs_file, fs_made, fs_entry_after}
use Rattle.manifest_laws.proofs.Folded.{folded}
use Rattle.manifest_laws.proofs.Reach.{sets_under, undecided, unreached, covers_push, covers_decides, uncovered_deleted, set_found, deletes}
use Rattle.manifest_laws.proofs.Flat.{clear_front}

-- ---- entries

-- on entries of fsnodes, with the directory there
abbrev fs_by : Option FsEntry → Option FileChange → Bool → Option FsEntry → Option FsEntry
fs_by made change under o = entry_by fs_set made is_fs_file change under o

no_file_no_dir : (made o : Option FsEntry) → without_dir fs_set made is_fs_file (without_file fs_set made is_fs_file o) ≡ None
no_file_no_dir made None = refl
no_file_no_dir made (Some (FsFile f)) = refl
no_file_no_dir made (Some (FsDir x s)) = refl

no_dir_no_file : (made o : Option FsEntry) → is_dir_entry o ≡ false → without_file fs_set made is_fs_file o ≡ None
no_dir_no_file made None h = refl
no_dir_no_file made (Some (FsFile f)) h = refl
no_dir_no_file made (Some (FsDir x s)) h = absurd (true≢false h)

file_left : (made o : Option FsEntry) → without_dir fs_set made is_fs_file o ≡ option_or (option_map FsFile (file_of_entry o)) None
file_left made None = refl
file_left made (Some (FsFile f)) = refl
file_left made (Some (FsDir x s)) = refl

-- ---- trees

pub not_both : (cs : List Changeset) → AreClear cs → (p : Path) → (length p == 0) ≡ false → is_dir (files cs) p ≡ true → tree cs p ≡ None
not_both cs clear p deep dir = let found = file_under cs p deep dir in no_file_above cs clear p found.0 found.1 found.2 found.3

module _ (cs : List Changeset) (c : Changeset) (d : Path) (n : List ℕ) (clear : AreClear (cs ++ c ∷ [])) (rise : is_sorted path_cmp c.changes ≡ true) where
  abbrev at : Path
  at = d ++ n ∷ []

  abbrev now : List (Path × File)
  now = files (cs ++ c ∷ [])

  abbrev entry_before : Option FsEntry
  entry_before = fs_entry_at (fsnode (files cs) d) n

  abbrev entry_now : Option FsEntry
  entry_now = fs_entry_at (fsnode now d) n

  abbrev IsUnder : Bool → Type 0
  IsUnder b = list_any (λ e. is_strict_prefix at e.0) c.changes ≡ b

  no_file_now : is_dir now at ≡ true → file_at now at ≡ None
  no_file_now dir = file_at-files (cs ++ c ∷ []) at ∙ not_both (cs ++ c ∷ []) clear at (not_root d n) dir

  -- what decides the path and sets nothing leaves no file
  decided_none : decides c at ≡ true → set_at c at ≡ None → file_at now at ≡ None
  decided_none decided none = file_at-files (cs ++ c ∷ []) at ∙ one_more cs c at ∙ ap (λ b. cond b (set_at c at) (tree cs at)) decided ∙ none

  entry_is_dir : is_dir now at ≡ true → entry_now ≡ Some (fs_dir (fsnode now at))
  entry_is_dir dir = entry_of_dir now d n (no_file_now dir) dir

  no_dir_where_set : (f : File) → set_at c at ≡ Some f → is_dir now at ≡ false
  no_dir_where_set f h = false_from_ne_true (is_dir now at) (λ dir. by (sym (set_there cs c at f h) ∙ not_both (cs ++ c ∷ []) clear at (not_root d n) dir))
    where
      by : ◌≡◌ {A = Option File} (Some f) None → ⊥
      by e = absurd (cc)

  unrenewed : IsUnder false → is_renewed c at ≡ false
  unrenewed h = λ i. not_root d n i || h i

  -- ---- a file is set

  set_case : (made : Option FsEntry) (f : File) (copied : Option CopySource) → find_key path_cmp at c.changes ≡ Some (Set f copied) → (u : Bool) → (u ≡ true → made ≡ fs_made now at) → (o : Option FsEntry) → fs_by made (Some (Set f copied)) u o ≡ entry_now
  set_case made f copied e false right o = sym (set_entry cs c d n f (ap (option_and_then file_of) e))
  set_case made f copied e true right o =
      ap (λ m. option_or m (Some (FsFile f))) (right refl ∙ ap (λ b. cond b (Some (fs_dir (fsnode now at))) None) (no_dir_where_set f (ap (option_and_then file_of) e)))
      ∙ sym (set_entry cs c d n f (ap (option_and_then file_of) e))

  -- ---- nothing is left

  gone : set_at c at ≡ None → IsUnder false → is_covered c d ≡ true → entry_now ≡ None
  gone none under h =
      entry_of_nothing now d n (decided_none (covers_decides at c.changes (covers_push d n c.changes h)) none)
      (there_after cs c at (unrenewed under) ∙ ap (λ b. is_dir (files cs) at && not b) (covers_push d n c.changes h) ∙ and_none (is_dir (files cs) at))
    where
      and_none : (b : Bool) → (b && false) ≡ false
      and_none true = refl
      and_none false = refl

  -- ---- the path is deleted, and nothing lies under it

  deleted : (made : Option FsEntry) → find_key path_cmp at c.changes ≡ Some Delete → IsUnder false → is_covered c d ≡ false → without_file fs_set made is_fs_file entry_before ≡ entry_now
  deleted made e under out = by (is_dir (files cs) at) refl
    where
      stays : is_dir now at ≡ is_dir (files cs) at
      stays = there_after cs c at (unrenewed under) ∙ ap (λ b. is_dir (files cs) at && not b) (uncovered_deleted d n c.changes rise e out) ∙ and_true (is_dir (files cs) at)
        where
          and_true : (b : Bool) → (b && true) ≡ b
          and_true true = refl
          and_true false = refl

      by : (b : Bool) → is_dir (files cs) at ≡ b → without_file fs_set made is_fs_file entry_before ≡ entry_now
      by true dir =
          ap (without_file fs_set made is_fs_file) (entry_of_dir (files cs) d n (file_at-files cs at ∙ not_both cs (clear_front cs c clear) at (not_root d n) dir) dir)
          ∙ ap (λ node. Some (fs_dir node)) (sym (unrenewed_node cs c at clear (unrenewed under) (stays ∙ dir)))
          ∙ sym (entry_is_dir (stays ∙ dir))
      by false dir =
          no_dir_no_file made entry_before (sym (dir_by_entry cs d n (clear_front cs c clear)) ∙ dir)
          ∙ sym (entry_of_nothing now d n (decided_none (deletes at c.changes e) (ap (option_and_then file_of) e)) (stays ∙ dir))

  -- ---- an edit lies under it

  under_none : (made : Option FsEntry) → find_key path_cmp at c.changes ≡ None → is_dir now at ≡ false → (v : Bool) → is_covered c d ≡ v → without_dir fs_set made is_fs_file (cond v None entry_before) ≡ entry_now
  under_none made e dir true out = sym (entry_of_nothing now d n (decided_none (covers_decides at c.changes (covers_push d n c.changes out)) (ap (option_and_then file_of) e)) dir)
  under_none made e dir false out =
      file_left made entry_before
      ∙ sym (entry_after cs c d n
      ∙ (λ i. option_or (option_map FsFile (cond (undecided d n c.changes e out unset i) (set_at c at) (file_of_entry entry_before))) (cond (dir i) (Some (fs_dir (fsnode now at))) None)))
    where
      unset : list_any (sets_under at) c.changes ≡ false
      unset = false_from_ne_true (list_any (sets_under at) c.changes) (λ h. (
          let found = set_found at c.changes rise h in
          true_and_false (is_dir now at) (dir_from (cs ++ c ∷ []) at found.0 found.1 found.2 (set_there cs c found.0 found.1 found.3)) dir))

  no_set : FileChange → Type 0
  no_set change = file_of change ≡ None

  under_by : (made : Option FsEntry) → made ≡ fs_made now at → (change : Option FileChange) → find_key path_cmp at c.changes ≡ change → option_and_then file_of change ≡ None → (b : Bool) → is_dir now at ≡ b → (v : Bool) → is_covered c d ≡ v
      → renewed fs_set made is_fs_file (edited_if fs_set made is_fs_file change (cond v None entry_before)) ≡ entry_now
  under_by made right change e none true dir v out =
      ap (λ m. option_or m (without_dir fs_set made is_fs_file (edited_if fs_set made is_fs_file change (cond v None entry_before)))) (right ∙ ap (λ b. cond b (Some (fs_dir (fsnode now at))) None) dir)
      ∙ sym (entry_is_dir dir)
  under_by made right None e none false dir v out =
      ap (λ m. option_or m (without_dir fs_set made is_fs_file (cond v None entry_before))) (right ∙ ap (λ b. cond b (Some (fs_dir (fsnode now at))) None) dir)
      ∙ under_none made e dir v out
  under_by made right (Some Delete) e none false dir v out =
      ap (λ m. option_or m (without_dir fs_set made is_fs_file (without_file fs_set made is_fs_file (cond v None entry_before)))) (right ∙ ap (λ b. cond b (Some (fs_dir (fsnode now at))) None) dir)
      ∙ no_file_no_dir made (cond v None entry_before)
      ∙ sym (entry_of_nothing now d n (decided_none (deletes at c.changes e) (ap (option_and_then file_of) e)) dir)
  under_by made right (Some (Set f copied)) e none false dir v out = absurd (cc)

  -- ---- all together

  told : (made : Option FsEntry) → (change : Option FileChange) → find_key path_cmp at c.changes ≡ change → (u : Bool) → IsUnder u → (u ≡ true → made ≡ fs_made now at) → (v : Bool) → is_covered c d ≡ v
      → fs_by made change u (cond v None entry_before) ≡ entry_now
  told made (Some (Set f copied)) e u under right v out = set_case made f copied e u right (cond v None entry_before)
  told made None e true under right v out = under_by made (right refl) None e refl (is_dir now at) refl v out
  told made (Some Delete) e true under right v out = under_by made (right refl) (Some Delete) e refl (is_dir now at) refl v out
  told made None e false under right true out = sym (gone (ap (option_and_then file_of) e) under out)
  told made (Some Delete) e false under right true out = sym (gone (ap (option_and_then file_of) e) under out)
  told made None e false under right false out = sym (unreached_entry cs c d n (unreached d n c.changes e out under))
  told made (Some Delete) e false under right false out = deleted made e under out

  pub fs_after : (made : Option FsEntry) → (list_any (λ e. is_strict_prefix at e.0) c.changes ≡ true → made ≡ fs_made now at) → fs_entry_after made at c.changes (cond (is_covered c d) None entry_before) ≡ entry_now
  fs_after made right =
      folded fs_set made is_fs_file at c.changes (cond (is_covered c d) None entry_before) rise
      ∙ told made (find_key path_cmp at c.changes) refl (list_any (λ e. is_strict_prefix at e.0) c.changes) refl right (is_covered c d) refl
