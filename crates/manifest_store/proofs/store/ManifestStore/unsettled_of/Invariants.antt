use Rattle.std.proofs.Common.{◌≡◌, true, false}
use Rattle.std.specs.Option.{option_map_or}
use Rattle.node_table.specs.Table.{is_settled}
use Rattle.changeset_store.specs.Store.{parent_at}
use Rattle.manifest_store.specs.Jobs.{IsReached}
use Rattle.manifest_store.proofs.store.ManifestStore.unsettled_of.Given as goal

abbrev pub invariant-loop-second : goal.invariant-loop-second
invariant-loop-second l = record {
  reached : IsReached l.changesets.known l.oldest l.number;
  unsettled : is_settled l.self l.oldest ≡ false;
  first_settled : option_map_or (is_settled l.self) (parent_at l.changesets.known l.oldest) true ≡ true;
}

abbrev pub decreases-loop-second : goal.decreases-loop-second
decreases-loop-second l = l.oldest
