use Rattle.std.proofs.Common.{◌≡◌, length, map, subst, ap, ◌∙◌}
use Rattle.changeset_model.specs.Changeset.{id_of}
use Rattle.reply_model.specs.Reply.{most_stack}
use Rattle.std.specs.Prelude.{◌≤◌, Some}
use Rattle.history_model.specs.History.{Land}
use Rattle.history_model.specs.Journal.{payload_len}
use Rattle.repo_machine.specs.Plans.{PlannedLanding, landing_in, rebased_of}
use Rattle.history_model.specs.Pushrebase.{moment_of}
use Rattle.changeset_store.specs.Shared.{values}
use Rattle.repo_machine.proofs.Rebasing.{landing_of_plan, is_recorded}
use Rattle.repo_machine.proofs.plan.Plan.rebased.Goals as goal

pub invariant_of-result : goal.invariant_of-result
invariant_of-result c =
    let plan = c.args.self.now in
    let told = c.told_of-told.ensures ∙ ap (λ stack. moment_of stack c.args.moment) (ap values c.as_slice.ensures.value ∙ ap (λ p. p.stack) c.self.view_is) in
    let l = c.in_ok-landing.field-0 in
    let made = landing_of_plan plan c.args.moment c.in_ok-new.new.items c.told_of-told.result _ c.in_ok-landing.ensures.made c.in_ok-new.ensures.new told in
    is_recorded plan c.args.moment l made (subst (λ p. length p.stack ≤ most_stack) c.self.view_is c.self.invariant.0) c.in_ok-copy.field-0 (c.in_ok-copy.ensures ∙ ap (λ p. p.caller) c.self.view_is) c.in_ok-ids.ids.items c.payload_length-length.result c.payload_length-told_length.result c.in_ok-new.frame.items
    c.in_ok-landing.ensures.ready c.payload_length-length.ensures.rules (c.in_ok-ids.ensures ∙ ap (map id_of) (c.as_slice-2.ensures.value ∙ c.in_ok-new.ensures.new)) (c.payload_length-length.ensures.length c.args.moment told) (subst (λ (p : PlannedLanding). c.payload_length-told_length.result ≡ payload_len (Land (landing_in (rebased_of plan c.args.moment) (Some p.caller)))) c.self.view_is (c.payload_length-told_length.ensures.length c.args.moment told)) c.in_ok-new.ensures.frame
