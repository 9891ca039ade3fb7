use Rattle.node_table.proofs.Apart.{apart_exactly}
use Rattle.node_table.proofs.laws.nodes_collide_exactly_where_two_have_one_digest.Goals as goal

pub returns : goal.returns
returns c = apart_exactly
