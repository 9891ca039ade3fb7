use Rattle.landing_core.proofs.Running.{shows_itself}
use Rattle.landing_core.proofs.settle_laws.each_run_shows_what_is_settled.Goals as goal

pub returns : goal.returns
returns c = shows_itself
