use Rattle.repo_machine.proofs.Planning.{plan_stays}
use Rattle.repo_machine.proofs.laws.plan_stays_at_its_head.Goals as goal

pub returns : goal.returns
returns c = plan_stays
