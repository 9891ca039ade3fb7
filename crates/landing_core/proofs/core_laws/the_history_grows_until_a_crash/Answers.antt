use Rattle.landing_core.proofs.Extending.{history_stays}
use Rattle.landing_core.proofs.core_laws.the_history_grows_until_a_crash.Goals as goal

pub returns : goal.returns
returns c = history_stays
