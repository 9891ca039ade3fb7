use Rattle.std.proofs.Common.{◌^◌, ◌+◌, ◌≤◌}
use Rattle.merge_walk.specs.Cost.{reads}
use Rattle.merge_walk.proofs.Costs.{due}
use Rattle.merge_walk.specs.Walk.{directory}
use Rattle.merge_walk.specs.View.{pending}
use Rattle.merge_walk.proofs.Walking.{ArePending}
use Rattle.merge_walk.proofs.Weights.{weigh}
use Rattle.merge_walk.proofs.walk.least_unresolved.Given as goal

abbrev pub invariant-loop-meeting : goal.invariant-loop-meeting
invariant-loop-meeting g l = record {
  meetings : ArePending (g.D.Directories.listed l.dirs) l.change (directory l.fn.left) (directory l.fn.right) (pending l.pending.items);
  counted : l.fn.steps ≤ l.steps;
  cost : l.steps + due (g.D.Directories.listed l.dirs) l.change (pending l.pending.items) ≤ l.fn.steps + reads (g.D.Directories.listed l.dirs) l.change l.fn.left l.fn.right;
}

-- what is met in two directories weighs less than where they met
abbrev pub decreases-loop-meeting : goal.decreases-loop-meeting
decreases-loop-meeting g l = weigh (2 ^ 64) (λ m. m.0) (pending l.pending.items)
