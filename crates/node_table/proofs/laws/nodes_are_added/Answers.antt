use Rattle.node_table.proofs.Apart.{has_just}
use Rattle.node_table.proofs.laws.nodes_are_added.Goals as goal

pub returns : goal.returns
returns c = has_just
