use Rattle.deleted_step.proofs.SetLinks.{deletions_are}
use Rattle.deleted_step.proofs.laws.deletions_from_the_first_parent.Goals as goal

pub returns : goal.returns
returns c = deletions_are
