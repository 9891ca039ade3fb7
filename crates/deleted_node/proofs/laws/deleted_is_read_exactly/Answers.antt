use Rattle.deleted_node.proofs.Decoded.{deleted_read_exactly}
use Rattle.deleted_node.proofs.laws.deleted_is_read_exactly.Goals as goal

pub returns : goal.returns
returns c = deleted_read_exactly
