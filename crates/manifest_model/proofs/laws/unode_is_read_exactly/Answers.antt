use Rattle.manifest_model.proofs.Decoded.{unode_read_exactly}
use Rattle.manifest_model.proofs.laws.unode_is_read_exactly.Goals as goal

pub returns : goal.returns
returns c = unode_read_exactly
