use Rattle.std.proofs.Common.{refl, sym, ◌∙◌}
use Rattle.policy_model.specs.Rules.{policy_place}
use Rattle.held_policy.proofs.Single.{is_denied_there}
use Rattle.held_policy.proofs.policies.check_change.Goals as goal

pub returns : goal.returns
returns c =
    is_denied_there c.args.rules.now c.args.caller.now policy_place _ c.number_of.result (sym c.decide_policy-ruling.ensures.allowed ∙ sym c.is_allow.ensures ∙ c.if-is_allow.false)
    (c.number_of.ensures ∙ c.decide_policy-ruling.ensures.number) refl
