use Rattle.std.proofs.Common.{◌≡◌, ◌&&◌, true, false, length}
use Rattle.changeset_model.specs.Path.{Path, elements, is_path, is_prefix}
use Rattle.history_model.specs.Past.{Past}
use Rattle.derive_step.proofs.Above.{between}
use Rattle.manifest_store.specs.Moves.{Stands, has_file}
use Rattle.manifest_store.proofs.moves.add_file_above.Given as goal

-- no file lies above the path, unless above the text
abbrev pub invariant-loop-above : goal.invariant-loop-above
invariant-loop-above l = record {
  path : is_path (elements l.text) ≡ true;
  front : is_prefix (elements l.text) l.path ≡ true;
  none : (past : Past) → Stands l.table.nodes l.parent past → (p : Path) → (has_file past p && between (elements l.text) l.path p) ≡ false;
  kept : l.gone.items ≡ l.fn.gone.items;
}

abbrev pub decreases-loop-above : goal.decreases-loop-above
decreases-loop-above l = length (elements l.text)
