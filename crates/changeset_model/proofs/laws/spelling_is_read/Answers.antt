use Rattle.changeset_model.proofs.Accepting.{read_exactly}
use Rattle.changeset_model.proofs.laws.spelling_is_read.Goals as goal

pub returns : goal.returns
returns c = read_exactly
