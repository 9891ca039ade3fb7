use Rattle.repo_machine.proofs.Renewed.{was_plan}
use Rattle.repo_machine.proofs.laws.plan_can_be_made_again.Goals as goal

pub returns : goal.returns
returns c = was_plan
