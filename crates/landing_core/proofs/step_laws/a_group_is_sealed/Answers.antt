use Rattle.landing_core.proofs.Sealed.{end_goes, end_fails}
use Rattle.landing_core.proofs.step_laws.a_group_is_sealed.Goals as goal

pub returns-clause-done : goal.returns-clause-done
returns-clause-done c = end_goes

pub returns-clause-failed : goal.returns-clause-failed
returns-clause-failed c = end_fails
