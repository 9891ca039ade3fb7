use Rattle.repo_machine.proofs.Planning.{was_planned}
use Rattle.repo_machine.proofs.laws.planned_as_it_grows.Goals as goal

pub returns : goal.returns
returns c = was_planned
