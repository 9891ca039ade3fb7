-- The nodes of the directories that a changeset touches, as they are gathered.
--     found b dirs d      what was gathered of a directory, where b is the root's
--     IsFull m b dirs d      it is what the table has of it;  AreDirs m b dirs      so is all that was gathered
--     IsMore m b before after      where it was so, it still is
--     left rest      the elements of what is left of a path's text
use Rattle.std.specs.Prelude.{◌≡◌, ◌⊎◌, ℕ, true, List, [], ◌∷◌, Option, None, Some, option_map}
use Rattle.std.specs.Borrow.{Bor}
use Rattle.std.specs.BTreeMap.{BTreeMap, get}
use Rattle.changeset_model.specs.Path.{Path, path_cmp, elements, is_prefix}
use Rattle.node_table.specs.Table.{Nodes}
use Rattle.derive_step.specs.declared.job.DirNodes.{DirNodes}
use Rattle.derive_step.specs.Views.{Before, before_seen}
use Rattle.manifest_store.specs.Nodes.{dir_from}

abbrev pub found : Before → BTreeMap Path DirNodes → Path → Option Before
found b dirs [] = Some b
found b dirs (n ∷ d) = option_map before_seen (get path_cmp dirs (n ∷ d))

abbrev pub IsFull : Nodes → Before → BTreeMap Path DirNodes → Path → Type 0
IsFull m b dirs d = found b dirs d ≡ dir_from m b d

abbrev pub AreDirs : Nodes → Before → BTreeMap Path DirNodes → Type 0
AreDirs m b dirs = (d : Path) → (found b dirs d ≡ None) ⊎ IsFull m b dirs d

abbrev pub IsMore : Nodes → Before → BTreeMap Path DirNodes → BTreeMap Path DirNodes → Type 0
IsMore m b before after = (d : Path) → IsFull m b before d → IsFull m b after d

-- at a directory and above it
abbrev pub AreFull : Nodes → Before → BTreeMap Path DirNodes → Path → Type 0
AreFull m b dirs p = (d : Path) → is_prefix d p ≡ true → IsFull m b dirs d

abbrev pub left : Option (Bor (List ℕ)) → Path
left None = []
left (Some text) = elements text.now
