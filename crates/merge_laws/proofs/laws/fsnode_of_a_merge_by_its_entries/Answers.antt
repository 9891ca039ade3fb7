use Rattle.merge_laws.proofs.FsTold.{node_by}
use Rattle.merge_laws.proofs.laws.fsnode_of_a_merge_by_its_entries.Goals as goal

pub returns : goal.returns
returns c = node_by
