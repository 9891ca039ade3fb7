use Rattle.std.proofs.Common.{◌≡◌, ◌≤◌, [], ◌∷◌, sym, ap, subst, ◌∙◌}
use Rattle.std.specs.Prelude.{Ok, IfOk}
use Rattle.history_model.specs.History.{Policy}
use Rattle.history_model.specs.Journal.{payload_len}
use Rattle.policy_model.specs.Rules.{policy_place}
use Rattle.reply_model.specs.Reply.{SetPolicy, PolicySet, refuse_some, denial, entered}
use Rattle.repo_calls.specs.Refusing.{IsRefusal}
use Rattle.repo_machine.specs.Entering.{IsPrepared}
use Rattle.repo_machine.proofs.Deciding.{decided_by}
use Rattle.repo_machine.proofs.Granting.{judges_made, if_ok}
use Rattle.repo_machine.proofs.Judging.{passes_refusal}
use Rattle.repo_machine.proofs.Policing.{policy_short, denied_so, entered_so}
use Rattle.repo_machine.proofs.machine.Machine.judge_read.Goals as goal

pub returns-in_err-check_policy-clause-err : goal.returns-in_err-check_policy-clause-err
returns-in_err-check_policy-clause-err c =
    let h = c.args.self.now.history in
    let e = c.in_err-check_policy.field-0.0 in
    passes_refusal _ c.from_residual.result _ c.from_residual.ensures.1
    (denied_so c.args.self.now.header h c.args.caller.now c.args.text.now c.requires.up c.requires.version c.requires.read.parses.0 c.requires.read.parses.1 e
    (subst (λ d. IsRefusal (refuse_some d denial) e) (decided_by h c.args.caller.now (policy_place ∷ []) _ c.rules.ensures) c.in_err-check_policy.ensures))

pub make_framed-requires-clause-short : goal.make_framed-requires-clause-short
make_framed-requires-clause-short c =
    subst (λ body. payload_len body ≤ 16_777_216) (sym c.requires.read.made_is)
    (policy_short c.args.caller.now c.args.text.now c.requires.read.parses.0 (c.keep_rules.ensures c.args.self.now.history) c.requires.read.parses.1)

pub returns-clause-ok : goal.returns-clause-ok
returns-clause-ok c =
    let header = c.args.self.now.header in
    let h = c.args.self.now.history in
    let caller = c.args.caller.now in
    let text = c.args.text.now in
    let allowed = subst (λ d. refuse_some d denial ≡ Ok tt) (decided_by h caller (policy_place ∷ []) _ c.rules.ensures) c.in_ok-check_policy.ensures in
    let judged = entered_so header h caller text c.requires.up c.requires.version c.requires.read.parses.0 c.requires.read.parses.1 allowed ∙ ap (λ n. entered header h (PolicySet n) (Policy caller text)) (sym c.stored_length.ensures) in
    if_ok c.make_framed.result _ _ (λ j p. judges_made header h c.make_framed.new.self.room c.args.who (SetPolicy caller text) (c.keep_rules.ensures h) (PolicySet c.stored_length.result) (Policy caller text) judged tt j p)
    (subst (λ body. IfOk c.make_framed.result (IsPrepared header h c.make_framed.new.self.room c.args.who (PolicySet c.stored_length.result) body)) c.requires.read.made_is c.make_framed.ensures.ok)
