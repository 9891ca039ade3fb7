use Rattle.std.proofs.Common.{ℕ, length}
use Rattle.changeset_store.specs.Fork.{IsAncestor}
use Rattle.path_conflict.specs.Places.{paths_of}
use Rattle.repo_machine.specs.Looked.{HasLooked}
use Rattle.repo_machine.proofs.clashes.seen_down_to.Given as goal

abbrev pub invariant-range : goal.invariant-range
invariant-range g l = record {
  ancestor_is : IsAncestor l.store.known l.ancestor l.number;
  looked : (last before : ℕ) → HasLooked l.store.known (paths_of l.outer) (length l.outer) l.ancestor last l.initial.number l.initial.least before l.initial.steps
      → HasLooked l.store.known (paths_of l.outer) (length l.outer) l.ancestor last l.number l.least before l.steps;
}

abbrev pub decreases-range : goal.decreases-range
decreases-range g l = l.number
