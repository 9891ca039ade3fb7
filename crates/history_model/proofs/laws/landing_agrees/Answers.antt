use Rattle.history_model.proofs.Landings.{landed_as_drafted, landed_as_head}
use Rattle.history_model.proofs.laws.landing_agrees.Goals as goal

pub returns-clause-touched : goal.returns-clause-touched
returns-clause-touched c = landed_as_drafted

pub returns-clause-untouched : goal.returns-clause-untouched
returns-clause-untouched c = landed_as_head
