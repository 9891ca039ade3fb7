use Rattle.repo_state.proofs.LeftGates.{gate_left}
use Rattle.repo_state.proofs.laws.other_steps_leave_the_gate.Goals as goal

pub returns : goal.returns
returns c = gate_left
