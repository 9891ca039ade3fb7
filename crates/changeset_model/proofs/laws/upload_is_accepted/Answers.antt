use Rattle.changeset_model.proofs.Accepting.{accepted_exactly}
use Rattle.changeset_model.proofs.laws.upload_is_accepted.Goals as goal

pub returns : goal.returns
returns c = accepted_exactly
