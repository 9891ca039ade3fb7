-- The files that edits add to those of a parent, and those that they take away.
--     Stands m parent past      a table has all nodes of a past that keeps its rules, whose roots these are
--     HasPast m past      the same of a changeset that is there
--     has_file past p      a file is at a path
--     IsDirectory past d x      a directory is there, and its fsnode has this id;  IsEntryAt past p entry      the entry is what is at a path
--     takes_at q p      a file that is set at q takes one at p away: p lies above it or under it
--     takes e p, brings e p, settles e p      an edit takes a file at this path away;  it sets one there;  it decides what is there
--     comes first second es p      a file is at the path after edits, and not at the first parent: one that they set, or one of the second parent that they leave
--     Adds P old new      the paths with P are added, and no others
use Rattle.std.specs.Prelude.{◌≡◌, Bool, true, false, not, ◌&&◌, ◌||◌, List, Option, None, Some, is_some}
use Rattle.std.specs.List.{list_any}
use Rattle.std.specs.Ordering.{eq_by_cmp}
use Rattle.byte_fields.specs.Bytes.{Id}
use Rattle.changeset_model.specs.Path.{Path, path_cmp, is_strict_prefix}
use Rattle.changeset_model.specs.Changeset.{FileChange, Set, Delete}
use Rattle.history_model.specs.Past.{Past, Begin, At}
use Rattle.history_model.specs.Tree.{decides_at, files_in, is_dir, tree_of}
use Rattle.manifest_model.specs.Fsnode.{fsnode, fsnode_id}
use Rattle.manifest_model.specs.Unode.{UnodeEntry, UnodeFile, UnodeDir}
use Rattle.deleted_step.specs.Steps.{is_among}
use Rattle.node_table.specs.Table.{Nodes}
use Rattle.node_table.specs.declared.roots.Roots.{Roots}
use Rattle.derive_step.specs.Pasts.{roots_of}
use Rattle.manifest_store.specs.Manifests.{HoldsAll, IsRight}

pub record Stands (m : Nodes) (parent : Option Roots) (past : Past) : Type 0 where
  pub right : IsRight past
  pub held : HoldsAll m past
  pub roots : parent ≡ roots_of past

abbrev pub HasPast : Nodes → Past → Type 0
HasPast m Begin = ⊥
HasPast m (At c first second) = IsRight (At c first second) × HoldsAll m (At c first second)

abbrev pub has_file : Past → Path → Bool
has_file past p = is_some (tree_of past p)

abbrev pub IsDirectory : Past → Path → Id → Type 0
IsDirectory past d x = (is_dir (files_in past) d ≡ true) × (x ≡ fsnode_id (fsnode (files_in past) d))

abbrev pub IsEntryAt : Past → Path → Option UnodeEntry → Type 0
IsEntryAt past p None = (has_file past p ≡ false) × (is_dir (files_in past) p ≡ false)
IsEntryAt past p (Some (UnodeFile x)) = has_file past p ≡ true
IsEntryAt past p (Some (UnodeDir x)) = (has_file past p ≡ false) × IsDirectory past p x

abbrev pub takes_at : Path → Path → Bool
takes_at q p = is_strict_prefix p q || is_strict_prefix q p

abbrev pub takes : Path × FileChange → Path → Bool
takes (q, Set f copied) p = takes_at q p
takes (q, Delete) p = eq_by_cmp path_cmp p q

abbrev pub brings : Path × FileChange → Path → Bool
brings (q, Set f copied) p = eq_by_cmp path_cmp p q
brings (q, Delete) p = false

abbrev pub settles : Path × FileChange → Path → Bool
settles e p = decides_at e.1 e.0 p

abbrev pub comes : (first second : Past) → List (Path × FileChange) → Path → Bool
comes first second es p = not (has_file first p) && (list_any (λ e. brings e p) es || (has_file second p && not (list_any (λ e. settles e p) es)))

abbrev pub Adds : (Path → Bool) → (old new : List Path) → Type 0
Adds P old new = (p : Path) → is_among p new ≡ (is_among p old || P p)
