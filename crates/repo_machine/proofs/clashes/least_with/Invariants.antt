use Rattle.std.proofs.Common.{ℕ, ◌+◌, ◌*◌, ◌^◌, ◌<◌, ◌≤◌, ◌++◌, List, map, take, length}
use Rattle.changeset_model.specs.Path.{Path}
use Rattle.path_conflict.specs.Places.{paths_of}
use Rattle.path_conflict.specs.Best.{IsBest}
use Rattle.repo_machine.proofs.clashes.least_with.Given as goal

-- of the edits so far
abbrev pub invariant-edits : goal.invariant-edits
invariant-edits g l = record {
  best : (seen : List Path) → IsBest (paths_of l.outer) seen l.initial.least → IsBest (paths_of l.outer) (seen ++ map (λ e. e.path) (take l.edit-index l.edits)) l.least;
  counted : l.initial.steps ≤ l.steps;
  cost : (digits : ℕ) → length l.outer < 2 ^ digits → l.steps ≤ l.initial.steps + (digits + 3) * l.edit-index;
}
