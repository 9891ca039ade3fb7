use Rattle.landing_core.proofs.Settling.{ready}
use Rattle.landing_core.proofs.settle_laws.what_has_a_job_is_ready.Goals as goal

pub returns : goal.returns
returns c = ready
