use Rattle.history_model.specs.Tree.{files}
use Rattle.tree_fold.proofs.Trees.{rising_sorted, files_sorted, file_at-files}
use Rattle.tree_fold.proofs.laws.files_are_the_tree.Goals as goal

pub returns-clause-order : goal.returns-clause-order
returns-clause-order c = λ cs. rising_sorted (files cs) (files_sorted cs)

pub returns-clause-tree : goal.returns-clause-tree
returns-clause-tree c = file_at-files
