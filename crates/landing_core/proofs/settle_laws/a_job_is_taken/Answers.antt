use Rattle.landing_core.proofs.Taking.{take_goes}
use Rattle.landing_core.proofs.settle_laws.a_job_is_taken.Goals as goal

pub returns : goal.returns
returns c = take_goes
