use Rattle.std.proofs.Common.{◌≡◌, sum_by, take}
use Rattle.repo_state.specs.Filling.{part_len}
use Rattle.repo_state.proofs.fill.total.Given as goal

abbrev pub invariant-loop-part : goal.invariant-loop-part
invariant-loop-part l = l.sum ≡ sum_by part_len (take l.part-index l.parts)
