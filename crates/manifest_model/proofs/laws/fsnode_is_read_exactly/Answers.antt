use Rattle.manifest_model.proofs.Decoded.{fsnode_read_exactly}
use Rattle.manifest_model.proofs.laws.fsnode_is_read_exactly.Goals as goal

pub returns : goal.returns
returns c = fsnode_read_exactly
