use Rattle.tree_fold.proofs.Children.{children_rise}
use Rattle.tree_fold.proofs.laws.children_rise.Goals as goal

pub returns : goal.returns
returns c = children_rise
