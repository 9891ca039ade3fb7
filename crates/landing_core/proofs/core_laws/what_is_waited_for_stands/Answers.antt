use Rattle.landing_core.proofs.Reached.{waiting_made, waiting_stands}
use Rattle.landing_core.proofs.core_laws.what_is_waited_for_stands.Goals as goal

pub returns-clause-made : goal.returns-clause-made
returns-clause-made c = waiting_made

pub returns-clause-stands : goal.returns-clause-stands
returns-clause-stands c = waiting_stands
