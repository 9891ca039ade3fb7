use Rattle.repo_state.proofs.Landing.{trees_after}
use Rattle.repo_state.proofs.landing_laws.a_landing_among_others_applies_its_stack.Goals as goal

pub returns : goal.returns
returns c = trees_after
