use Rattle.deleted_node.proofs.Stays.{entries_agree, nodes_agree, nodes_stay, nodes_unreached}
use Rattle.deleted_node.proofs.laws.deleted_nodes_stay.Goals as goal

pub returns-clause-agree : goal.returns-clause-agree
returns-clause-agree c = nodes_agree

pub returns-clause-stay : goal.returns-clause-stay
returns-clause-stay c = nodes_stay

pub returns-clause-unreached : goal.returns-clause-unreached
returns-clause-unreached c = nodes_unreached

pub returns-clause-entry : goal.returns-clause-entry
returns-clause-entry c = entries_agree
