use Rattle.history_model.proofs.Policies.{held_has_text}
use Rattle.history_model.proofs.laws.a_held_policy_has_a_text.Goals as goal

pub returns : goal.returns
returns c = held_has_text
