use Rattle.merge_tree.proofs.Flatness.{merge_flat}
use Rattle.merge_tree.proofs.laws.a_merge_stays_flat.Goals as goal

pub returns : goal.returns
returns c = merge_flat
