use Rattle.repo_journal.proofs.Groups.{first_grown, group_behind, group_first}
use Rattle.repo_journal.proofs.laws.a_group_is_the_first_of_what_waits.Goals as goal

pub returns-clause-first : goal.returns-clause-first
returns-clause-first c = group_first

pub returns-clause-behind : goal.returns-clause-behind
returns-clause-behind c = group_behind

pub returns-clause-grows : goal.returns-clause-grows
returns-clause-grows c = first_grown
