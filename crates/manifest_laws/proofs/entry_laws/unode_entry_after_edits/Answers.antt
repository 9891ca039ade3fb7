use Rattle.manifest_laws.proofs.UnodeSide.{unode_after}
use Rattle.manifest_laws.proofs.entry_laws.unode_entry_after_edits.Goals as goal

pub returns : goal.returns
returns c = λ k older d name made clear rise out dir none was right. unode_after k older d name clear rise out made dir none was right
