use Rattle.repo_machine.proofs.Merging.{left_stays}
use Rattle.repo_machine.proofs.laws.what_a_merge_leaves_stays.Goals as goal

pub returns : goal.returns
returns c = left_stays
