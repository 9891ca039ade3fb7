use Rattle.std.proofs.Common.{◌^◌, ◌+◌, ◌≤◌}
use Rattle.merge_walk.specs.Cost.{room, cleared}
use Rattle.merge_walk.proofs.Costs.{due_dirs}
use Rattle.merge_walk.specs.View.{dirs_seen}
use Rattle.merge_walk.proofs.Searching.{IsSearch}
use Rattle.merge_walk.proofs.Weights.{weigh}
use Rattle.merge_walk.proofs.left.leaves_any.Given as goal

abbrev pub invariant-loop-here : goal.invariant-loop-here
invariant-loop-here g l = record {
  search : IsSearch (g.D.Directories.listed l.dirs) l.change l.path l.fn.id (dirs_seen l.rest.items);
  counted : l.fn.steps ≤ l.steps;
  cost : l.steps + due_dirs (g.D.Directories.listed l.dirs) l.change (dirs_seen l.rest.items) ≤ l.fn.steps + cleared (g.D.Directories.listed l.dirs) l.change (room l.path) l.path l.fn.id;
}

-- what is in a directory weighs less than it
abbrev pub decreases-loop-here : goal.decreases-loop-here
decreases-loop-here g l = weigh (2 ^ 64) (λ t. t.0) (dirs_seen l.rest.items)
