use Rattle.manifest_laws.proofs.FsSide.{fs_after}
use Rattle.manifest_laws.proofs.entry_laws.fsnode_entry_after_edits.Goals as goal

pub returns : goal.returns
returns c = λ cs change d name made clear rise right. fs_after cs change d name clear rise made right
