use Rattle.landing_core.proofs.Leaving.{shows_left, job_left}
use Rattle.landing_core.proofs.settle_laws.other_steps_leave_what_is_settled.Goals as goal

pub returns-clause-settled : goal.returns-clause-settled
returns-clause-settled c = shows_left

pub returns-clause-jobs : goal.returns-clause-jobs
returns-clause-jobs c = job_left
