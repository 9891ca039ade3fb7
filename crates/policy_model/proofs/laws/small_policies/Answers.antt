use Rattle.std.proofs.Common.{refl}
use Rattle.policy_model.proofs.laws.small_policies.Goals as goal

pub returns-clause-other_denied : goal.returns-clause-other_denied
returns-clause-other_denied c = refl

pub returns-clause-caller_allowed : goal.returns-clause-caller_allowed
returns-clause-caller_allowed c = refl

pub returns-clause-elements_not_bytes : goal.returns-clause-elements_not_bytes
returns-clause-elements_not_bytes c = refl

pub returns-clause-no_rule : goal.returns-clause-no_rule
returns-clause-no_rule c = refl
