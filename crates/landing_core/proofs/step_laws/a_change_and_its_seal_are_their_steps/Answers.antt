use Rattle.landing_core.proofs.Serving.{served_goes}
use Rattle.landing_core.proofs.step_laws.a_change_and_its_seal_are_their_steps.Goals as goal

pub returns : goal.returns
returns c = served_goes
