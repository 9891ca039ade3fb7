use Rattle.tree_fold.proofs.Trees.{same_files, sorted_rising, files_of_trees}
use Rattle.tree_fold.proofs.laws.files_at_paths_tell_a_tree.Goals as goal

pub returns-clause-files : goal.returns-clause-files
returns-clause-files c = λ old new rises other is. same_files old new (sorted_rising old rises) (sorted_rising new other) is

pub returns-clause-chains : goal.returns-clause-chains
returns-clause-chains c = files_of_trees
