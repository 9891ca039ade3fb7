use Rattle.std.proofs.Common.{◌≡◌, drop}
use Rattle.changeset_store.specs.Shared.{values}
use Rattle.repo_machine.proofs.Rebasing.{dates}
use Rattle.repo_machine.proofs.rebased.told_of.Given as goal

-- those so far are of the first version
abbrev pub invariant-stack : goal.invariant-stack
invariant-stack l = dates (values (drop l.commit-index l.stack)) ≡ dates (values l.stack)
