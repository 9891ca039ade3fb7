use Rattle.landing_core.proofs.Reached.{step_seals}
use Rattle.landing_core.proofs.core_laws.each_step_seals_the_group_or_nothing.Goals as goal

pub returns : goal.returns
returns c = step_seals
