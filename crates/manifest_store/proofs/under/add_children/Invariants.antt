use Rattle.std.proofs.Common.{◌≡◌, ◌≤◌, ◌&&◌, ◌||◌, ℕ, suc, length, drop}
use Rattle.changeset_model.specs.Path.{Path}
use Rattle.history_model.specs.Past.{Past}
use Rattle.fsnode.specs.Parts.{children_seen}
use Rattle.manifest_store.specs.Moves.{HasPast, IsDirectory, has_file}
use Rattle.manifest_store.specs.Levels.{AreDirectories, AreDeep, is_reached}
use Rattle.manifest_store.proofs.Levels.{any_named}
use Rattle.manifest_store.proofs.under.add_children.Given as goal

-- with the files under the names that are left, all are reached
abbrev pub invariant-loop-child : goal.invariant-loop-child
invariant-loop-child l = record {
  files : (past : Past) → HasPast l.table.nodes past → IsDirectory past l.dir.path l.dir.id → (p : Path) → (is_reached past l.gone.items l.left.items p || (has_file past p && any_named l.dir.path (children_seen (drop l.child-index l.child-items)) p))
      ≡ (is_reached past l.fn.gone.items l.fn.left.items p || (has_file past p && any_named l.dir.path (children_seen l.child-items) p));
  directories : (past : Past) → HasPast l.table.nodes past → IsDirectory past l.dir.path l.dir.id → AreDirectories past l.fn.left.items → AreDirectories past l.left.items;
  deeper : (n : ℕ) → n ≤ length l.dir.path → AreDeep (suc n) l.fn.left.items → AreDeep (suc n) l.left.items;
}
