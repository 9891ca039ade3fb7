use Rattle.migration.proofs.Copies.{no_other}
use Rattle.migration.proofs.laws.an_unfinished_copy_is_no_other_history.Goals as goal

pub returns : goal.returns
returns c = no_other
