use Rattle.std.proofs.Common.{◌≡◌, drop}
use Rattle.std.specs.FinMap.{find as find_key}
use Rattle.changeset_model.specs.Path.{path_cmp}
use Rattle.bonsai.specs.View.{edits_view}
use Rattle.bonsai.proofs.edit_list.change_among.Given as goal

-- what is left tells the answer
abbrev pub invariant-loop-edit : goal.invariant-loop-edit
invariant-loop-edit l = find_key path_cmp l.path (edits_view (drop l.edit-index l.edits)) ≡ find_key path_cmp l.path (edits_view l.edits)
