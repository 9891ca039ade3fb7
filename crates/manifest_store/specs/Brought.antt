-- Directories of a second parent, whose files are gone through level by level for those that it brings.
--     HasBoth m first second      a table has all nodes of both parents, which keep their rules
--     own o      a path, or the root's where none is given
--     is_brought first second es p      a file of the second parent that edits leave, and that the first hasn't
--     IsBroughtFrom past other dir      a directory of the second parent, other, with the ids of its fsnodes there and, if it is one there too, at the first;  AreBroughtFrom past other dirs      so is each
--     entry_under o n      the entry of a name, if there is a directory
--     AreEntries past other d node entries      these are the entries of a directory at the second parent, and the node has those at the first
--     is_file_entry o, id_of_dir o      whether the entry of a name is a file's;  the id of its fsnode, if it is a directory's
--     AreAsDeep n dirs      their paths have so many elements at least
--     is_to_come first second es come dirs p      a path was added, or it is brought under one of the directories
use Rattle.std.specs.Prelude.{◌≡◌, ◌≤◌, ℕ, Bool, true, false, not, ◌&&◌, ◌||◌, if◌then◌else◌, List, [], length, Option, None, Some}
use Rattle.std.specs.List.{AllByRecursion, list_any}
use Rattle.changeset_model.specs.Path.{Path, is_strict_prefix}
use Rattle.changeset_model.specs.Changeset.{FileChange}
use Rattle.history_model.specs.Past.{Past}
use Rattle.history_model.specs.Tree.{files_in}
use Rattle.byte_fields.specs.Bytes.{Id}
use Rattle.manifest_model.specs.Fsnode.{Fsnode, FsEntry, FsFile, FsDir, fsnode, fsnode_id}
use Rattle.manifest_laws.specs.Entries.{fs_entry_at}
use Rattle.merge_laws.specs.Resolved.{has_dir}
use Rattle.deleted_step.specs.Steps.{is_among}
use Rattle.node_table.specs.Table.{Nodes}
use Rattle.manifest_store.specs.declared.brought.Brought.{Brought}
use Rattle.manifest_store.specs.Manifests.{HoldsAll, IsRight}
use Rattle.manifest_store.specs.Moves.{has_file, settles}

pub record HasBoth (m : Nodes) (first second : Past) : Type 0 where
  pub first_right : IsRight first
  pub first_held : HoldsAll m first
  pub second_right : IsRight second
  pub second_held : HoldsAll m second

abbrev pub own : Option Path → Path
own None = []
own (Some p) = p

abbrev pub is_brought : (first second : Past) → List (Path × FileChange) → Path → Bool
is_brought first second es p = not (has_file first p) && (has_file second p && not (list_any (λ e. settles e p) es))

pub record IsBroughtFrom (past other : Past) (dir : Brought) : Type 0 where
  pub there : has_dir other (own dir.path) ≡ true
  pub second : dir.second ≡ fsnode_id (fsnode (files_in other) (own dir.path))
  pub first : dir.first ≡ (if has_dir past (own dir.path) then Some (fsnode_id (fsnode (files_in past) (own dir.path))) else None)

abbrev pub AreBroughtFrom : (first second : Past) → List Brought → Type 0
AreBroughtFrom first second dirs = AllByRecursion (λ dir. IsBroughtFrom first second dir) dirs

abbrev pub AreAsDeep : ℕ → List Brought → Type 0
AreAsDeep n dirs = AllByRecursion (λ dir. n ≤ length (own dir.path)) dirs

abbrev pub is_to_come : (first second : Past) → List (Path × FileChange) → List Path → List Brought → Path → Bool
is_to_come first second es come dirs p = is_among p come || (is_brought first second es p && list_any (λ dir. is_strict_prefix (own dir.path) p) dirs)

abbrev pub is_file_entry : Option FsEntry → Bool
is_file_entry None = false
is_file_entry (Some (FsFile f)) = true
is_file_entry (Some (FsDir x s)) = false

abbrev pub id_of_dir : Option FsEntry → Option Id
id_of_dir None = None
id_of_dir (Some (FsFile f)) = None
id_of_dir (Some (FsDir x s)) = Some x

abbrev pub entry_under : Option Fsnode → List ℕ → Option FsEntry
entry_under None n = None
entry_under (Some node) n = fs_entry_at node n

pub record AreEntries (past other : Past) (d : Path) (node : Option Fsnode) (entries : List (List ℕ × FsEntry)) : Type 0 where
  pub first_right : IsRight past
  pub second_right : IsRight other
  pub at_first : (n : List ℕ) → entry_under node n ≡ fs_entry_at (fsnode (files_in past) d) n
  pub at_second : entries ≡ (fsnode (files_in other) d).entries
