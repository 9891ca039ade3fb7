use Rattle.std.proofs.Common.{◌++◌, refl, ap, subst, ◌∙◌}
use Rattle.std.specs.Prelude.{None}
use Rattle.reply_model.specs.Reply.{SetBookmark}
use Rattle.reply_model.specs.After.{Asks, Grants, Replies, entries_of}
use Rattle.repo_calls.specs.Calls.{bookmark_answer}
use Rattle.repo_machine.proofs.Judging.{answers_refusal, replies_admitted}
use Rattle.repo_machine.proofs.machine.Machine.set_bookmark.Goals as goal

pub returns-in_err-judged-clause-reply : goal.returns-in_err-judged-clause-reply
returns-in_err-judged-clause-reply c =
    answers_refusal bookmark_answer (λ e. refl) c.args.self.now.header c.args.self.now.history c.args.who (SetBookmark c.args.caller.now c.args.name.now c.args.from c.args.to) c.from_residual.result _ c.judge_bookmark.new.self.history c.from_residual.ensures.1 c.in_err-judged.ensures.err c.judge_bookmark.ensures.history

pub returns-clause-reply : goal.returns-clause-reply
returns-clause-reply c =
    subst (λ g. Replies c.args.self.now.header c.args.self.now.history c.args.who (Asks (SetBookmark c.args.caller.now c.args.name.now c.args.from c.args.to)) (Grants g) c.admit-granted.new.self.history) (c.in_ok-judged.ensures.granted)
    (replies_admitted c.args.self.now.header c.args.self.now.history c.args.who (SetBookmark c.args.caller.now c.args.name.now c.args.from c.args.to) c.in_ok-judged.judged c.admit-granted.new.self.history c.in_ok-judged.ensures.ok.is_judged c.in_ok-judged.ensures.ok.by
    (c.admit-granted.ensures.history ∙ ap (λ h. h ++ entries_of c.in_ok-judged.judged.who (record { entry = c.in_ok-judged.judged.made; fault = None })) c.judge_bookmark.ensures.history))
