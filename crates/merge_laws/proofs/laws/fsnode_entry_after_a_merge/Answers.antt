use Rattle.merge_laws.proofs.FsTold.{fs_entry_after_merge}
use Rattle.merge_laws.proofs.laws.fsnode_entry_after_a_merge.Goals as goal

pub returns : goal.returns
returns c = fs_entry_after_merge
