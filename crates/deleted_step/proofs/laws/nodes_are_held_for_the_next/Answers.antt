use Rattle.deleted_step.proofs.Begun.{held_next}
use Rattle.deleted_step.proofs.laws.nodes_are_held_for_the_next.Goals as goal

pub returns : goal.returns
returns c = held_next
