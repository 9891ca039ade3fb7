use Rattle.landing_core.proofs.Settling.{settles_nothing}
use Rattle.landing_core.proofs.settle_laws.nothing_is_settled.Goals as goal

pub returns : goal.returns
returns c = settles_nothing
