use Rattle.manifest_model.proofs.Nodes.{unode_is_read, unode_is_one}
use Rattle.manifest_model.proofs.laws.unode_spelling_is_of_one.Goals as goal

pub returns-clause-read : goal.returns-clause-read
returns-clause-read c = unode_is_read

pub returns-clause-one : goal.returns-clause-one
returns-clause-one c = unode_is_one
