use Rattle.landing_core.proofs.Sealed.{write_goes, write_fails}
use Rattle.landing_core.proofs.step_laws.a_group_is_written.Goals as goal

pub returns-clause-done : goal.returns-clause-done
returns-clause-done c = write_goes

pub returns-clause-failed : goal.returns-clause-failed
returns-clause-failed c = write_fails
