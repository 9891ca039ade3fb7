use Rattle.history_model.proofs.Trees.{tree-landed}
use Rattle.history_model.proofs.laws.landing_applies_its_stack.Goals as goal

pub returns : goal.returns
returns c = tree-landed
