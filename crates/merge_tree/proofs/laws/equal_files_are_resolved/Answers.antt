use Rattle.merge_tree.proofs.Flatness.{equal_resolved}
use Rattle.merge_tree.proofs.laws.equal_files_are_resolved.Goals as goal

pub returns : goal.returns
returns c = equal_resolved
