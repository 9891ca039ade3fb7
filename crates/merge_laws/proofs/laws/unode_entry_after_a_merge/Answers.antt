use Rattle.merge_laws.proofs.UnodeEntries.{unode_entry_after_merge}
use Rattle.merge_laws.proofs.laws.unode_entry_after_a_merge.Goals as goal

pub returns : goal.returns
returns c = unode_entry_after_merge
