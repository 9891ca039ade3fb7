use Rattle.std.proofs.Common.{◌≡◌, take, map}
use Rattle.changeset_model.specs.Changeset.{id_of}
use Rattle.repo_machine.proofs.rebased.ids_of.Given as goal

-- the ids so far
abbrev pub invariant-commits : goal.invariant-commits
invariant-commits l = l.ids.items ≡ map id_of (take l.commit-index l.commits)
