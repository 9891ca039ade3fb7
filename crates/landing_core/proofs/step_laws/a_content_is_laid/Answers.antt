use Rattle.landing_core.proofs.Sealed.{lay_goes, lay_fails}
use Rattle.landing_core.proofs.step_laws.a_content_is_laid.Goals as goal

pub returns-clause-done : goal.returns-clause-done
returns-clause-done c = lay_goes

pub returns-clause-failed : goal.returns-clause-failed
returns-clause-failed c = lay_fails
