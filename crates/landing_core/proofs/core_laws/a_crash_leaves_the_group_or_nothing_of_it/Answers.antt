use Rattle.landing_core.proofs.Reached.{crash_leaves, crash_reopens}
use Rattle.landing_core.proofs.core_laws.a_crash_leaves_the_group_or_nothing_of_it.Goals as goal

pub returns-clause-log : goal.returns-clause-log
returns-clause-log c = crash_leaves

pub returns-clause-reopened : goal.returns-clause-reopened
returns-clause-reopened c = crash_reopens
