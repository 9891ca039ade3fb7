use Rattle.manifest_model.proofs.Nodes.{fsnode_is_read, fsnode_is_one}
use Rattle.manifest_model.proofs.laws.fsnode_spelling_is_of_one.Goals as goal

pub returns-clause-read : goal.returns-clause-read
returns-clause-read c = fsnode_is_read

pub returns-clause-one : goal.returns-clause-one
returns-clause-one c = fsnode_is_one
