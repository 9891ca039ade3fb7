use Rattle.history_model.proofs.Clashes.{clash_is_least, no_clash}
use Rattle.history_model.proofs.laws.clash_is_the_least.Goals as goal

pub returns-clause-found : goal.returns-clause-found
returns-clause-found c = clash_is_least

pub returns-clause-none : goal.returns-clause-none
returns-clause-none c = no_clash
