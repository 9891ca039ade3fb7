use Rattle.landing_core.proofs.Crashing.{crash_goes, left_shows, kept_goes, group_goes}
use Rattle.landing_core.proofs.step_laws.a_crash_is_a_step.Goals as goal

pub returns-clause-nothing : goal.returns-clause-nothing
returns-clause-nothing c = crash_goes

pub returns-clause-left : goal.returns-clause-left
returns-clause-left c = left_shows

pub returns-clause-group : goal.returns-clause-group
returns-clause-group c = kept_goes

pub returns-clause-kept : goal.returns-clause-kept
returns-clause-kept c = group_goes
