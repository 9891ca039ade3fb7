use Rattle.std.proofs.Common.{◌≡◌, ◌≤◌, false}
use Rattle.node_table.specs.Table.{is_settled}
use Rattle.changeset_store.specs.Fork.{IsAncestor}
use Rattle.manifest_store.proofs.store.ManifestStore.oldest_in_chain.Given as goal

abbrev pub invariant-loop-parent : goal.invariant-loop-parent
invariant-loop-parent l = record {
  in_chain : IsAncestor l.changesets.known l.oldest l.number;
  unsettled : is_settled l.self l.oldest ≡ false;
  earlier : l.oldest ≤ l.number;
}

abbrev pub decreases-loop-parent : goal.decreases-loop-parent
decreases-loop-parent l = l.oldest
