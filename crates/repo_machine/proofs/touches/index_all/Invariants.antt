use Rattle.std.proofs.Common.{◌-◌}
use Rattle.repo_machine.specs.Touches.{Covers}
use Rattle.repo_machine.proofs.touches.index_all.Given as goal

abbrev pub invariant-rest : goal.invariant-rest
invariant-rest l = Covers l.touches l.store.known

abbrev pub decreases-rest : goal.decreases-rest
decreases-rest l = l.count - l.touches.indexed
