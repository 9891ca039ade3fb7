use Rattle.merge_walk.proofs.Manifests.{tree_of_fsnodes}
use Rattle.merge_walk.proofs.laws.fsnodes_are_trees.Goals as goal

pub returns : goal.returns
returns c = tree_of_fsnodes
