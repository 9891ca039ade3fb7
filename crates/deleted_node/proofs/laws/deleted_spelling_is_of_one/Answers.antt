use Rattle.deleted_node.proofs.Spelled.{deleted_is_one, deleted_is_read}
use Rattle.deleted_node.proofs.laws.deleted_spelling_is_of_one.Goals as goal

pub returns-clause-read : goal.returns-clause-read
returns-clause-read c = deleted_is_read

pub returns-clause-one : goal.returns-clause-one
returns-clause-one c = deleted_is_one
