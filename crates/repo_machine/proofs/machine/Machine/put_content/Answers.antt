use Rattle.std.proofs.Common.{◌++◌, refl, sym, ap, subst, ◌∙◌}
use Rattle.std.specs.Prelude.{None}
use Rattle.reply_model.specs.Reply.{PutContent}
use Rattle.reply_model.specs.After.{Asks, Grants, Replies, entries_of}
use Rattle.repo_calls.specs.Calls.{granted_seen, content_answer}
use Rattle.repo_machine.proofs.Judging.{answers_refusal, replies_admitted}
use Rattle.repo_machine.proofs.Asking.{judges_asked, refuses_asked}
use Rattle.repo_machine.proofs.machine.Machine.put_content.Goals as goal

pub returns-in_err-judged-clause-reply : goal.returns-in_err-judged-clause-reply
returns-in_err-judged-clause-reply c =
    answers_refusal content_answer (λ e. refl) c.args.self.now.header c.args.self.now.history c.args.who (PutContent c.args.bytes.now) c.from_residual.result _ c.judge.new.self.history c.from_residual.ensures.1 (refuses_asked c.in_err-judged.ensures.err) c.judge.ensures.history

pub returns-clause-reply : goal.returns-clause-reply
returns-clause-reply c =
    subst (λ g. Replies c.args.self.now.header c.args.self.now.history c.args.who (Asks (PutContent c.args.bytes.now)) (Grants g) c.admit.new.self.history) (sym c.admit.ensures.granted ∙ ap granted_seen c.in-Content.is)
    (replies_admitted c.args.self.now.header c.args.self.now.history c.args.who (PutContent c.args.bytes.now) c.in_ok-judged.judged c.admit.new.self.history (judges_asked c.in_ok-judged.ensures.ok).is_judged (judges_asked c.in_ok-judged.ensures.ok).by
    (c.admit.ensures.history ∙ ap (λ h. h ++ entries_of c.in_ok-judged.judged.who (record { entry = c.in_ok-judged.judged.made; fault = None })) c.judge.ensures.history))
