use Rattle.std.proofs.Common.{sym, ap, ◌∙◌}
use Rattle.std.specs.Prelude.{unwrap_or}
use Rattle.std.proofs.lemmas.Result.{err_from_is_err_and}
use mathlib.Core.Bool.{true≢false}
use Rattle.repo_events.specs.Entries.{move_of}
use Rattle.reply_model.specs.Opening.{nobody}
use Rattle.reply_model.specs.Reply.{SetBookmark}
use Rattle.recovery.proofs.Asked.{enters_as, move_asked, move_differs, refused_asked}
use Rattle.recovery.proofs.enter.enter_move.Goals as goal

pub returns-in_err-judged-clause-enters : goal.returns-in_err-judged-clause-enters
returns-in_err-judged-clause-enters c =
    let p = err_from_is_err_and c.from_residual-in_err-judged.result c.from_residual-in_err-judged.ensures.1 in
    let m = c.args.movement.now in
    rw (p.1, p.2) (refused_asked c.args.machine.now.header c.args.machine.now.history c.args.payload.now (SetBookmark c.in_ok-caller.caller m.name m.from m.to) _ c.in_err-judged.field-0.0 c.judge_bookmark.new.self.history
    (ap (λ caller. SetBookmark caller m.name m.from m.to) (sym (c.in_ok-caller.ensures ∙ ap (λ o. unwrap_or o nobody) c.as_ref.ensures.value))) c.in_err-judged.ensures.err c.judge_bookmark.ensures.history)

pub returns-then-not-makes_payload-clause-enters : goal.returns-then-not-makes_payload-clause-enters
returns-then-not-makes_payload-clause-enters c = (
  move_differs c.args.machine.now.header c.args.machine.now.history c.in_ok-caller.caller (move_of c.args.movement.now) c.args.payload.now c.in_ok-judged.judged (c.in_ok-caller.ensures ∙ ap (λ o. unwrap_or o nobody) c.as_ref.ensures.value) c.in_ok-judged.ensures.ok.is_judged
      (λ p. true≢false (sym (c.makes_payload.ensures.1 p) ∙ c.if-not-makes_payload.true)),
  c.judge_bookmark.ensures.history,
)

pub returns-clause-enters : goal.returns-clause-enters
returns-clause-enters c =
    enters_as _ _ _ _ _ _
    (move_asked c.args.machine.now.header c.args.machine.now.history c.in_ok-caller.caller (move_of c.args.movement.now) c.args.payload.now c.in_ok-judged.judged (c.in_ok-caller.ensures ∙ ap (λ o. unwrap_or o nobody) c.as_ref.ensures.value) c.in_ok-judged.ensures.ok.is_judged (c.makes_payload.ensures.0 c.if-not-makes_payload.false))
    c.judge_bookmark.ensures.history c.enter_judged.ensures.enters
