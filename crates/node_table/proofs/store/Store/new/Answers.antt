use Rattle.std.proofs.Common.{sym, ap, subst}
use Rattle.node_table.specs.Table.{AreDigests}
use Rattle.node_table.specs.Parts.{nodes_of_entries}
use Rattle.node_table.proofs.Digests.{digests-empty}
use Rattle.node_table.proofs.store.Store.new.Goals as goal

pub invariant_of-result : goal.invariant_of-result
invariant_of-result c = subst AreDigests (sym (ap nodes_of_entries c.new.ensures.empty)) digests-empty
