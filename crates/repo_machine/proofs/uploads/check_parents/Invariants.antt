use Rattle.std.proofs.Common.{◌≡◌, drop}
use Rattle.repo_machine.specs.Checking.{parents_refusal}
use Rattle.repo_machine.proofs.uploads.check_parents.Given as goal

-- which parent isn't known, is none of those before
abbrev pub invariant-parents : goal.invariant-parents
invariant-parents l = parents_refusal l.changesets.known (drop l.parent-index l.parents) ≡ parents_refusal l.changesets.known l.parents
