use Rattle.deleted_node.proofs.Within.{entry_is, link_is, nothing_without}
use Rattle.deleted_node.proofs.laws.deleted_node_of_a_path.Goals as goal

pub returns-clause-link : goal.returns-clause-link
returns-clause-link c = link_is

pub returns-clause-entry : goal.returns-clause-entry
returns-clause-entry c = entry_is

pub returns-clause-nothing : goal.returns-clause-nothing
returns-clause-nothing c = nothing_without
