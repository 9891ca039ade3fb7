use Rattle.policy_model.proofs.Least.{denied_least, rule_of_denied}
use Rattle.policy_model.proofs.laws.denied_is_the_least.Goals as goal

pub returns-clause-least : goal.returns-clause-least
returns-clause-least c = denied_least

pub returns-clause-rule : goal.returns-clause-rule
returns-clause-rule c = rule_of_denied
