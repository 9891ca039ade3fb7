use Rattle.std.proofs.Common.{arith, [], ◌∷◌, ◌++◌, length, sym, ap, ◌∙◌}
use Rattle.std.specs.Prelude.{Some}
use Rattle.std.specs.Arc.{arc_value}
use Rattle.std.specs.Int.{w32, to_be_bytes}
use Rattle.std.proofs.lemmas.List.{length-map}
use Rattle.bonsai.specs.Encodings.{encodings}
use Rattle.changeset_store.specs.Shared.{values}
use Rattle.history_model.specs.Pushrebase.{rewrite}
use Rattle.repo_events.specs.Entries.{landing_head}
use Rattle.repo_events.proofs.Written.{frame_completed}
use Rattle.repo_machine.specs.Plans.{rebased_of, landing_in}
use Rattle.repo_calls.proofs.Fitting.{length-rewrite}
use Rattle.repo_machine.proofs.Rebasing.{told_fits}
use Rattle.repo_machine.proofs.plan.Plan.recorded.Goals as goal

pub overflow_cast-told_length : goal.overflow_cast-told_length
overflow_cast-told_length c = let fits = told_fits (rebased_of c.args.self.now c.args.moment) c.requires.caller c.args.length c.args.told_length c.requires.length c.requires.told_length (omega (arith, c.if-length.false)) in omega arith

pub returns-clause-frame : goal.returns-clause-frame
returns-clause-frame c = λ short.
    let plan = c.args.self.now in
    let stack_is = ap values c.as_slice-stack.ensures.value ∙ ap (λ p. p.stack) c.self.view_is in
    let name_is = c.head-head.ensures.name in
    let old_is = c.head-head.ensures.old in
    let draft_is = c.head-head.ensures.draft in
    let moment_is = c.head-head.ensures.moment ∙ c.requires.told in
    let caller_is = c.head-head.ensures.caller ∙ ap (λ p. Some p.caller) c.self.view_is in
    let count_is = sym (length-map c.as_slice-stack.result.now arc_value) ∙ ap length stack_is ∙ sym (length-rewrite plan.stack plan.old c.args.moment) in
    frame_completed (landing_in (rebased_of plan c.args.moment) (Some plan.caller)) c.in_ok-frame.frame.items c.push.new.self.items
    (c.in_ok-frame.ensures ∙ (λ i. to_be_bytes w32 (c.requires.told_length i) ++ landing_head (caller_is i) (name_is i) (old_is i) (draft_is i) (moment_is i) (count_is i)))
    (c.in_ok-push.ensures.items ∙ ap (λ s. s ++ 0 ∷ []) (c.in_ok-new.ensures.bytes ∙ (λ i. c.in_ok-frame.frame.items ++ encodings (rewrite (stack_is i) (ap (λ p. p.old) c.self.view_is i) c.args.moment))))
