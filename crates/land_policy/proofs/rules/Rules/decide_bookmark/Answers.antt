use Rattle.std.proofs.Common.{◌≡◌, ap, ◌∙◌}
use Rattle.changeset_model.specs.Path.{elements}
use Rattle.policy_model.specs.Rules.{decide, is_allowed, bookmark_place}
use Rattle.land_policy.proofs.Callers.{bookmark_is_text, bookmark_elements}
use Rattle.land_policy.proofs.rules.Rules.decide_bookmark.Goals as goal

pub unreachable-requires : goal.unreachable-requires
unreachable-requires c = c.in_default.ensures.cases.0 (bookmark_is_text _ c.args.bookmark.now c.write_text-len.ensures.text c.write_text-len.ensures.rules)

pub returns-clause-number : goal.returns-clause-number
returns-clause-number c =
    let place : elements c.in-Ok.place.now ≡ bookmark_place c.args.bookmark.now = bookmark_elements c.in-Ok.place.now c.args.bookmark.now (c.in-Ok.ensures.cases.0 ∙ c.write_text-len.ensures.text) c.write_text-len.ensures.rules in
    c.decide_at.ensures.number ∙ ap (decide c.args.self.now c.args.caller.now) place

pub returns-clause-allowed : goal.returns-clause-allowed
returns-clause-allowed c =
    let place : elements c.in-Ok.place.now ≡ bookmark_place c.args.bookmark.now = bookmark_elements c.in-Ok.place.now c.args.bookmark.now (c.in-Ok.ensures.cases.0 ∙ c.write_text-len.ensures.text) c.write_text-len.ensures.rules in
    c.decide_at.ensures.allowed ∙ ap (is_allowed c.args.self.now c.args.caller.now) place
