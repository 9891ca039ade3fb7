use Rattle.repo_journal.proofs.Steps.{under_way_read}
use Rattle.repo_journal.proofs.laws.reads_leave_a_group_under_way.Goals as goal

pub returns : goal.returns
returns c = λ at size bytes m now after u kept looked only. under_way_read at size bytes m now after kept looked only u
