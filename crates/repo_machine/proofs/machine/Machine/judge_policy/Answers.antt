use Rattle.std.proofs.Common.{inr, refl, sym, ap, subst, ◌∙◌}
use Rattle.changeset_model.specs.Version.{is_second}
use Rattle.reply_model.specs.Reply.{OldFormat, BadPolicy}
use Rattle.repo_machine.specs.Policies.{IsReadOf}
use Rattle.repo_machine.proofs.Policing.{old_format, bad_policy}
use Rattle.repo_machine.proofs.machine.Machine.judge_policy.Goals as goal

pub returns-then-not-is_second-clause-err : goal.returns-then-not-is_second-clause-err
returns-then-not-is_second-clause-err c =
    inr (OldFormat, old_format c.args.self.now.header c.args.self.now.history c.args.caller.now c.args.text.now c.in_ok-check_up.ensures.ok (sym (c.is_second.ensures ∙ ap (λ m. is_second m.header.version) c.self.view_is) ∙ c.if-not-is_second.true), refl)

pub returns-in-Bad-clause-err : goal.returns-in-Bad-clause-err
returns-in-Bad-clause-err c =
    let second = sym (c.is_second.ensures ∙ ap (λ m. is_second m.header.version) c.self.view_is) ∙ c.if-not-is_second.false in
    inr (BadPolicy c.in-Bad.line, bad_policy c.args.self.now.header c.args.self.now.history c.args.caller.now c.args.text.now c.in_ok-check_up.ensures.ok second c.in-Bad.line (subst (IsReadOf c.args.caller.now c.args.text.now) c.in-Bad.is c.requires.read), refl)
