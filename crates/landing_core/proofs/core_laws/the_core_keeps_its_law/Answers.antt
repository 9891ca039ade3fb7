use Rattle.landing_core.proofs.Whole.{core_law}
use Rattle.landing_core.proofs.core_laws.the_core_keeps_its_law.Goals as goal

pub returns : goal.returns
returns c = core_law
