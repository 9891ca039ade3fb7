use Rattle.merge_tree.proofs.Flatness.{swapped}
use Rattle.merge_tree.proofs.laws.parents_in_either_order.Goals as goal

pub returns : goal.returns
returns c = swapped
