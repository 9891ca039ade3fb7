use Rattle.std.proofs.Common.{◌≡◌, ◌++◌, drop, map}
use Rattle.changeset_model.specs.Changeset.{id_of}
use Rattle.changeset_store.specs.Store.{changeset_at}
use Rattle.manifest_store.proofs.logs.ids_at.Given as goal

-- the ids so far and those of what is left are those of all
abbrev pub invariant-loop-number : goal.invariant-loop-number
invariant-loop-number l =
    l.ids.items ++ map (λ n. id_of (changeset_at l.changesets.known n)) (drop l.number-index l.numbers) ≡ map (λ n. id_of (changeset_at l.changesets.known n)) l.numbers
