use Rattle.landing_core.proofs.Settling.{settles}
use Rattle.landing_core.proofs.settle_laws.what_is_derived_is_settled.Goals as goal

pub returns : goal.returns
returns c = settles
