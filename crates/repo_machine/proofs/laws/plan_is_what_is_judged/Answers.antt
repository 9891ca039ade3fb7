use Rattle.repo_machine.proofs.Planning.{judged_as_planned}
use Rattle.repo_machine.proofs.laws.plan_is_what_is_judged.Goals as goal

pub returns : goal.returns
returns c = judged_as_planned
