use Rattle.std.proofs.Common.{◌≡◌, drop, is_some}
use Rattle.std.specs.Prelude.{◌||◌, ◌&&◌}
use Rattle.std.specs.List.{list_any}
use Rattle.changeset_model.specs.Path.{Path, path_eq}
use Rattle.bonsai.specs.View.{edits_view}
use Rattle.tree_fold.specs.Fold.{clears, file_in}
use Rattle.tree_fold.proofs.cleared.cleared_paths.Given as goal

-- what was found, with what the edits that are left clear, is what is to be found
abbrev pub invariant-loop-edit : goal.invariant-loop-edit
invariant-loop-edit l = (p : Path) → (list_any (λ q. path_eq q p) l.paths.items || (list_any (clears p) (edits_view (drop l.edit-index l.edits)) && is_some (file_in l.files p))) ≡ (list_any (clears p) (edits_view l.edits) && is_some (file_in l.files p))
