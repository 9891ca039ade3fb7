use Rattle.repo_journal.proofs.Frames.{payload_in-framed}
use Rattle.repo_journal.proofs.laws.frames_have_their_payload.Goals as goal

pub returns : goal.returns
returns c = payload_in-framed
