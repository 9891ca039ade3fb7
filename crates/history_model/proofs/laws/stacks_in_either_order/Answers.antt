use Rattle.history_model.proofs.Landings.{either_order}
use Rattle.history_model.proofs.laws.stacks_in_either_order.Goals as goal

pub returns : goal.returns
returns c = either_order
