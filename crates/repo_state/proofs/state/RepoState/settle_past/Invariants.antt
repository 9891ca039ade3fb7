use Rattle.std.proofs.Common.{◌≡◌, length}
use Rattle.history_model.specs.History.{known}
use Rattle.settled_merge.specs.Settling.{StaySettled}
use Rattle.settled_merge.proofs.Deriving.{missing}
use Rattle.repo_state.proofs.state.RepoState.settle_past.Given as goal

abbrev pub invariant-loop-job : goal.invariant-loop-job
invariant-loop-job g l = record {
  same : l.self ≡ record l.initial.self { table = l.self.table };
  stay : StaySettled l.initial.self.table l.self.table;
}

abbrev pub decreases-loop-job : goal.decreases-loop-job
decreases-loop-job g l = missing l.self.table (length (known l.self.history))
