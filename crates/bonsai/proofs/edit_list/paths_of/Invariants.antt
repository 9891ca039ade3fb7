use Rattle.std.proofs.Common.{◌≡◌, take, map}
use Rattle.bonsai.proofs.edit_list.paths_of.Given as goal

abbrev pub invariant-loop-edit : goal.invariant-loop-edit
invariant-loop-edit l = l.paths.items ≡ map (λ e. e.path) (take l.edit-index l.edits)
