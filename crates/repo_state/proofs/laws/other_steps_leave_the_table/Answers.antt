use Rattle.repo_state.proofs.Settling.{table_left}
use Rattle.repo_state.proofs.laws.other_steps_leave_the_table.Goals as goal

pub returns : goal.returns
returns c = table_left
