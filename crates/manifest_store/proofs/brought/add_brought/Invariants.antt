use Rattle.std.proofs.Common.{◌≡◌, ◌||◌}
use Rattle.std.specs.Prelude.{Some}
use Rattle.changeset_model.specs.Path.{Path}
use Rattle.bonsai.specs.View.{edits_view}
use Rattle.history_model.specs.Past.{Past}
use Rattle.deleted_step.specs.Steps.{is_among}
use Rattle.manifest_store.specs.Brought.{AreBroughtFrom, AreAsDeep, is_brought, is_to_come}
use Rattle.manifest_store.specs.Moves.{Stands}
use Rattle.manifest_store.proofs.brought.add_brought.Given as goal

-- with the files under this level's directories, all come
abbrev pub invariant-loop : goal.invariant-loop
invariant-loop l = record {
  files : (past other : Past) → Stands l.table.nodes l.first past → Stands l.table.nodes (Some l.second) other → (p : Path) →
      is_to_come past other (edits_view l.edits) l.come.items l.level.items p ≡ (is_among p l.fn.come.items || is_brought past other (edits_view l.edits) p);
  directories : (past other : Past) → Stands l.table.nodes l.first past → Stands l.table.nodes (Some l.second) other → AreBroughtFrom past other l.level.items;
  deep : AreAsDeep l.counter l.level.items;
}
