use Rattle.landing_core.proofs.Reached.{stay}
use Rattle.landing_core.proofs.core_laws.sealed_entries_stay.Goals as goal

pub returns : goal.returns
returns c = stay
