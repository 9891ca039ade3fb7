use Rattle.std.proofs.Common.{inl, refl, sym, subst}
use Rattle.reply_model.specs.Reply.{judge}
use Rattle.repo_calls.specs.Refusing.{IsRefusal}
use Rattle.repo_machine.proofs.Judging.{passes_refusal, refused_down}
use Rattle.repo_calls.specs.Calls.{call_seen}
use Rattle.repo_machine.specs.Found.{IsFoundReady}
use Rattle.repo_machine.specs.Prepared.{IsReadyTo}
use Rattle.repo_machine.proofs.Asking.{refused_anyhow}
use Rattle.repo_machine.proofs.Merging.{found_ready}
use Rattle.repo_machine.proofs.machine.Machine.judge.Goals as goal

pub returns-in_err-check_up-clause-err : goal.returns-in_err-check_up-clause-err
returns-in_err-check_up-clause-err c =
    let h = c.args.self.now.history in
    let header = c.args.self.now.header in
    passes_refusal _ c.from_residual.result _ c.from_residual.ensures.1
    (refused_anyhow header h c.args.ask.now c.args.found c.requires.found _ (λ ask. subst (IsRefusal (judge header h ask)) (sym c.in_err-check_up.ensures.err.0) (refused_down header h ask c.in_err-check_up.ensures.err.1)))

pub judge_prepared-requires-clause-found : goal.judge_prepared-requires-clause-found
judge_prepared-requires-clause-found c =
    subst (λ call. IsFoundReady c.args.self.now.header c.args.self.now.history call c.in_ok-prepared.prepared.ready c.args.found) (sym c.in_ok-prepared.ensures.asks)
    (found_ready c.args.self.now.header c.args.self.now.history (call_seen c.args.ask.now) c.in_ok-prepared.prepared.ready c.args.found
    (subst (λ call. IsReadyTo call c.in_ok-prepared.prepared.ready) c.in_ok-prepared.ensures.asks c.in_ok-prepared.ensures.prepared) c.requires.found)

pub returns-in_err-prepared-clause-err : goal.returns-in_err-prepared-clause-err
returns-in_err-prepared-clause-err c =
    passes_refusal _ c.from_residual-in_err-prepared.result _ c.from_residual-in_err-prepared.ensures.1
    (refused_anyhow c.args.self.now.header c.args.self.now.history c.args.ask.now c.args.found c.requires.found _ (λ ask. inl refl))
