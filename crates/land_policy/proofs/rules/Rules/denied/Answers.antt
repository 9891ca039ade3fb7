use Rattle.std.proofs.Common.{sym, ◌∙◌}
use Rattle.policy_model.proofs.Least.{denied_least}
use Rattle.land_policy.proofs.Rulings.{denied_here, all_allowed}
use Rattle.land_policy.proofs.rules.Rules.denied.Goals as goal

pub returns-then-not-is_allow-clause-least : goal.returns-then-not-is_allow-clause-least
returns-then-not-is_allow-clause-least c = λ rising.
    let paths = c.args.paths.now in
    let p = c.path-item.result in
    denied_least c.args.self.now c.args.caller.now paths (record { path = p; rule = c.number_of-rule.result }) rising
    (sym (denied_here c.args.self.now c.args.caller.now paths c.loop-path.path-index p c.number_of-rule.result c.loop-path-test.true c.path-item.is
    (sym c.decide-ruling.ensures.allowed ∙ sym c.is_allow.ensures ∙ c.if-not-is_allow.true) (c.number_of-rule.ensures ∙ c.decide-ruling.ensures.number) c.loop-path.invariant))

pub returns-clause-allowed : goal.returns-clause-allowed
returns-clause-allowed c = all_allowed c.args.self.now c.args.caller.now c.args.paths.now c.loop-path.path-index c.loop-path-test.false c.loop-path.invariant
