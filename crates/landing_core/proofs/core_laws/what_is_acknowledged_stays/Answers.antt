use Rattle.landing_core.proofs.Extending.{acknowledged_stay}
use Rattle.landing_core.proofs.core_laws.what_is_acknowledged_stays.Goals as goal

pub returns : goal.returns
returns c = acknowledged_stay
