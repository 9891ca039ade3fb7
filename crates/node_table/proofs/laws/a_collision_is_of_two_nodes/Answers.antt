use Rattle.node_table.proofs.Apart.{of_two}
use Rattle.node_table.proofs.laws.a_collision_is_of_two_nodes.Goals as goal

pub returns : goal.returns
returns c = of_two
