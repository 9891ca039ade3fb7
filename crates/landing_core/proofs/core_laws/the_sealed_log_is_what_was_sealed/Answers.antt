use Rattle.landing_core.proofs.Reached.{log_is}
use Rattle.landing_core.proofs.core_laws.the_sealed_log_is_what_was_sealed.Goals as goal

pub returns : goal.returns
returns c = log_is
