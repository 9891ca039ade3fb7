use Rattle.tree_fold.proofs.Children.{no_directory}
use Rattle.tree_fold.proofs.laws.no_directory_is_empty.Goals as goal

pub returns : goal.returns
returns c = no_directory
