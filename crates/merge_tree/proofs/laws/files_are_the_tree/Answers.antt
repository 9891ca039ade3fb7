use Rattle.merge_tree.proofs.Pasts.{files_in_sorted, file_at-files_in}
use Rattle.merge_tree.proofs.laws.files_are_the_tree.Goals as goal

pub returns-clause-order : goal.returns-clause-order
returns-clause-order c = files_in_sorted

pub returns-clause-tree : goal.returns-clause-tree
returns-clause-tree c = file_at-files_in
