use Rattle.std.proofs.Common.{◌≡◌, ◌≤◌, false}
use Rattle.node_table.specs.Table.{is_settled}
use Rattle.changeset_store.specs.Fork.{IsAncestor}
use Rattle.manifest_store.proofs.store.ManifestStore.jump_back.Given as goal

abbrev pub invariant-loop-exponent : goal.invariant-loop-exponent
invariant-loop-exponent l = record {
  in_chain : IsAncestor l.changesets.known l.oldest l.number;
  unsettled : is_settled l.self l.oldest ≡ false;
  earlier : l.oldest ≤ l.number;
}
