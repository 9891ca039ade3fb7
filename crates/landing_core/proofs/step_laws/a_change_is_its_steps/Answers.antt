use Rattle.landing_core.proofs.Asked.{stored_goes}
use Rattle.landing_core.proofs.step_laws.a_change_is_its_steps.Goals as goal

pub returns : goal.returns
returns c = stored_goes
