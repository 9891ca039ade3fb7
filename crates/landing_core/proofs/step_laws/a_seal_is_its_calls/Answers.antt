use Rattle.landing_core.proofs.Sealed.{seal_goes, cut_goes}
use Rattle.landing_core.proofs.step_laws.a_seal_is_its_calls.Goals as goal

pub returns-clause-done : goal.returns-clause-done
returns-clause-done c = seal_goes

pub returns-clause-failed : goal.returns-clause-failed
returns-clause-failed c = cut_goes
