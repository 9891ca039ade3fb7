use Rattle.std.proofs.Common.{◌≡◌, ◌&&◌, ◌||◌, not, drop}
use Rattle.std.specs.List.{list_any}
use Rattle.changeset_model.specs.Path.{Path}
use Rattle.bonsai.specs.View.{edits_view}
use Rattle.history_model.specs.Past.{Past}
use Rattle.deleted_step.specs.Steps.{is_among}
use Rattle.manifest_store.specs.Moves.{Stands, has_file, takes, brings}
use Rattle.manifest_store.proofs.moves.moved_by_edits.Given as goal

-- with what the edits that are left change, all is there
abbrev pub invariant-loop-edit : goal.invariant-loop-edit
invariant-loop-edit l = record {
  gone : (past : Past) → Stands l.table.nodes l.parent past → (p : Path) → (is_among p l.moved.gone.items || (has_file past p && list_any (λ e. takes e p) (edits_view (drop l.edit-index l.edits)))) ≡ (has_file past p && list_any (λ e. takes e p) (edits_view l.edits));
  come : (past : Past) → Stands l.table.nodes l.parent past → (p : Path) → (is_among p l.moved.come.items || (not (has_file past p) && list_any (λ e. brings e p) (edits_view (drop l.edit-index l.edits)))) ≡ (not (has_file past p) && list_any (λ e. brings e p) (edits_view l.edits));
}
