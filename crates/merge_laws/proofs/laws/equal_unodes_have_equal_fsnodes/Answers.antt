use Rattle.merge_laws.proofs.Equal.{same_fsnode}
use Rattle.merge_laws.proofs.laws.equal_unodes_have_equal_fsnodes.Goals as goal

pub returns : goal.returns
returns c = same_fsnode
