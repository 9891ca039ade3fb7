use Rattle.policy_model.specs.Held.{rules_in}
use Rattle.policy_model.proofs.Least.{all_allowed}
use Rattle.policy_model.proofs.laws.what_is_not_denied_is_allowed.Goals as goal

pub returns : goal.returns
returns c = λ text caller ps p none within. all_allowed (rules_in text) caller ps p none within
