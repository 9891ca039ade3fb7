use Rattle.std.proofs.Common.{◌++◌}
use Rattle.history_model.proofs.Landings.{either_order}
use Rattle.tree_fold.proofs.Trees.{files_of_trees}
use Rattle.tree_fold.proofs.laws.stacks_in_either_order.Goals as goal

pub returns : goal.returns
returns c = λ cs first second apart. files_of_trees (cs ++ first ++ second) (cs ++ second ++ first) (either_order cs first second apart)
