use Rattle.std.proofs.Common.{◌≡◌, take, map}
use Rattle.changeset_model.specs.Changeset.{id_of}
use Rattle.changeset_store.specs.Store.{changeset_at}
use Rattle.repo_machine.proofs.log.ids_of.Given as goal

-- the ids so far
abbrev pub invariant-numbers : goal.invariant-numbers
invariant-numbers l = l.ids.items ≡ map id_of (map (changeset_at l.changesets.known) (take l.number-index l.numbers))
