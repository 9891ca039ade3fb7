use Rattle.landing_core.proofs.Reached.{first_stands}
use Rattle.landing_core.proofs.core_laws.the_first_history_stands.Goals as goal

pub returns : goal.returns
returns c = first_stands
