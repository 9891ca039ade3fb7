use Rattle.repo_state.proofs.Landing.{replied_trees}
use Rattle.repo_state.proofs.landing_laws.a_granted_landing_applies_its_stack.Goals as goal

pub returns : goal.returns
returns c = replied_trees
