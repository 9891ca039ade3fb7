use Rattle.node_table.proofs.Tables.{empty_is}
use Rattle.node_table.proofs.table.NodeTable.new.Goals as goal

pub invariant_of-result : goal.invariant_of-result
invariant_of-result c = rw (c.new.ensures, c.new-2.ensures, c.new-3.ensures.items) empty_is
