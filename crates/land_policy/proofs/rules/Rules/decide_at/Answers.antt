use Rattle.std.proofs.Common.{sym, ap, ◌∙◌, arith}
use Rattle.changeset_model.specs.Path.{elements}
use Rattle.policy_model.specs.Rules.{decide, is_allowed}
use Rattle.land_policy.specs.View.{rules_view}
use Rattle.land_policy.proofs.Entering.{own_table}
use Rattle.land_policy.proofs.Rulings.{in_rules, allows_by, allows_none}
use Rattle.land_policy.proofs.rules.Rules.decide_at.Goals as goal

pub returns-in_default-clause-number : goal.returns-in_default-clause-number
returns-in_default-clause-number c =
    let rules = rules_view c.self.inside.rules.items in
    let own = own_table rules c.args.caller.now c.self.inside.named c.get-own.result c.get-own.ensures.value c.self.invariant.named_is in
    let first = c.first_match.ensures rules c.args.caller.now c.self.invariant.everyone_is own in
    sym c.in_default.is ∙ first ∙ ap (λ rs. decide rs c.args.caller.now (elements c.args.place.now)) c.self.view_is

pub returns-in_default-clause-allowed : goal.returns-in_default-clause-allowed
returns-in_default-clause-allowed c =
    let rules = rules_view c.self.inside.rules.items in
    let own = own_table rules c.args.caller.now c.self.inside.named c.get-own.result c.get-own.ensures.value c.self.invariant.named_is in
    let first = c.first_match.ensures rules c.args.caller.now c.self.invariant.everyone_is own in
    allows_none rules c.args.caller.now (elements c.args.place.now) (sym first ∙ c.in_default.is) ∙ ap (λ rs. is_allowed rs c.args.caller.now (elements c.args.place.now)) c.self.view_is

pub index-requires : goal.index-requires
index-requires c =
    let items = c.self.inside.rules.items in
    let own = own_table (rules_view items) c.args.caller.now c.self.inside.named c.get-own.result c.get-own.ensures.value c.self.invariant.named_is in
    let first = c.first_match.ensures (rules_view items) c.args.caller.now c.self.invariant.everyone_is own in
    let less = in_rules items c.args.caller.now (elements c.args.place.now) c.in-Some.number (sym first ∙ c.in-Some.is) in
    omega arith

pub returns-clause-number : goal.returns-clause-number
returns-clause-number c =
    let rules = rules_view c.self.inside.rules.items in
    let own = own_table rules c.args.caller.now c.self.inside.named c.get-own.result c.get-own.ensures.value c.self.invariant.named_is in
    let first = c.first_match.ensures rules c.args.caller.now c.self.invariant.everyone_is own in
    sym c.in-Some.is ∙ first ∙ ap (λ rs. decide rs c.args.caller.now (elements c.args.place.now)) c.self.view_is

pub returns-clause-allowed : goal.returns-clause-allowed
returns-clause-allowed c =
    let items = c.self.inside.rules.items in
    let own = own_table (rules_view items) c.args.caller.now c.self.inside.named c.get-own.result c.get-own.ensures.value c.self.invariant.named_is in
    let first = c.first_match.ensures (rules_view items) c.args.caller.now c.self.invariant.everyone_is own in
    let less = in_rules items c.args.caller.now (elements c.args.place.now) c.in-Some.number (sym first ∙ c.in-Some.is) in
    allows_by items c.args.caller.now (elements c.args.place.now) c.in-Some.number c.index.result.now (sym first ∙ c.in-Some.is) less c.index.ensures
    ∙ ap (λ rs. is_allowed rs c.args.caller.now (elements c.args.place.now)) c.self.view_is
