use Rattle.std.proofs.Common.{length, ap, sym, subst, ◌∙◌}
use Rattle.std.specs.Prelude.{is_some, Some, IfOk, IfErr}
use Rattle.history_model.specs.History.{Content}
use Rattle.reply_model.specs.Reply.{PutContent, ContentPut}
use Rattle.repo_machine.specs.Entering.{IsPrepared, Prevents}
use Rattle.repo_machine.specs.Held.{repository}
use Rattle.repo_machine.specs.Judged.{Frames}
use Rattle.repo_machine.proofs.Judging.{judged_known, judged_new, is_absent}
use Rattle.repo_machine.proofs.Granting.{all_prevented, judges_nothing, judges_made, if_ok}
use Rattle.repo_machine.proofs.machine.Machine.judge_content.Goals as goal

pub make_framed-requires-clause-frames : goal.make_framed-requires-clause-frames
make_framed-requires-clause-frames c =
    let ready = c.requires.ready in
    subst (λ n. Frames (Some (Content c.args.id n)) c.args.frame.items) (sym ready.2) ready.1.frames

pub returns-then-is_some-clause-ok : goal.returns-then-is_some-clause-ok
returns-then-is_some-clause-ok c = λ bytes are ready count_is.
    judges_nothing c.args.self.now.header c.args.self.now.history c.args.self.now.room c.args.who (PutContent bytes) are (ContentPut c.args.id)
    (judged_known c.self.invariant.1 (repository c.args.self.now) (ap repository c.self.view_is) c.in_ok-check_up.ensures.ok bytes c.args.id ready.id_is ready.short (ap is_some (sym c.length.ensures) ∙ sym c.is_some.ensures ∙ c.if-is_some.true)) c.unchanged.result c.unchanged.ensures

pub returns-clause-ok : goal.returns-clause-ok
returns-clause-ok c = λ bytes are ready count_is.
    let header = c.args.self.now.header in
    let h = c.args.self.now.history in
    let room = c.make_framed.new.self.room in
    let id = c.args.id in
    let absent = ap is_some (sym c.length.ensures) ∙ sym c.is_some.ensures ∙ c.if-is_some.false in
    if_ok c.make_framed.result _ _
    (λ j p. judges_made header h room c.args.who (PutContent bytes) are (ContentPut id) (Content id (length bytes))
    (judged_new c.self.invariant.1 (repository c.args.self.now) (ap repository c.self.view_is) c.in_ok-check_up.ensures.ok bytes id ready.id_is ready.short absent)
    (is_absent c.self.invariant.1 (repository c.args.self.now) (ap repository c.self.view_is) c.in_ok-check_up.ensures.ok bytes id ready.id_is ready.short absent) j p)
    (subst (λ n. IfOk c.make_framed.result (IsPrepared header h room c.args.who (ContentPut id) (Content id n))) count_is c.make_framed.ensures.ok)

pub returns-clause-err : goal.returns-clause-err
returns-clause-err c = λ bytes ready count_is.
    let header = c.args.self.now.header in
    let h = c.args.self.now.history in
    let id = c.args.id in
    let absent = ap is_some (sym c.length.ensures) ∙ sym c.is_some.ensures ∙ c.if-is_some.false in
    all_prevented c.make_framed.result header h (PutContent bytes) (ContentPut id) (Content id (length bytes))
    (judged_new c.self.invariant.1 (repository c.args.self.now) (ap repository c.self.view_is) c.in_ok-check_up.ensures.ok bytes id ready.id_is ready.short absent)
    (subst (λ n. IfErr c.make_framed.result (Prevents header h (Content id n))) count_is c.make_framed.ensures.err)
