use Rattle.merge_walk.proofs.Manifests.{tree_in_table}
use Rattle.merge_walk.proofs.laws.tables_have_trees.Goals as goal

pub returns : goal.returns
returns c = tree_in_table
