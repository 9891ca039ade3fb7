use Rattle.landing_core.proofs.Sealed.{open_goes, sync_fails, open_fails}
use Rattle.landing_core.proofs.step_laws.a_gate_is_opened.Goals as goal

pub returns-clause-done : goal.returns-clause-done
returns-clause-done c = open_goes

pub returns-clause-sync : goal.returns-clause-sync
returns-clause-sync c = sync_fails

pub returns-clause-failed : goal.returns-clause-failed
returns-clause-failed c = open_fails
