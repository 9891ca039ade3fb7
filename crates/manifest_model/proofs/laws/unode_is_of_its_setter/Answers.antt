use Rattle.manifest_model.proofs.Links.{link_is_setter, unode_kept, unode_made}
use Rattle.manifest_model.proofs.laws.unode_is_of_its_setter.Goals as goal

pub returns-clause-link : goal.returns-clause-link
returns-clause-link c = link_is_setter

pub returns-clause-kept : goal.returns-clause-kept
returns-clause-kept c = unode_kept

pub returns-clause-made : goal.returns-clause-made
returns-clause-made c = unode_made
