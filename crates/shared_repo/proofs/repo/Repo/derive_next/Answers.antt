use Rattle.std.proofs.Common.{sym, subst}
use Rattle.reply_model.specs.After.{Answers, Derives, nothing}
use Rattle.repo_state.proofs.Reading.{collided}
use Rattle.repo_calls.specs.Asking.{fault_answer}
use Rattle.shared_repo.specs.Derivation.{IsNextSome}
use Rattle.shared_repo.proofs.Derivations.{was_derived}
use Rattle.shared_repo.proofs.repo.Repo.derive_next.Goals as goal

pub settle-requires-clause-derived : goal.settle-requires-clause-derived
settle-requires-clause-derived g c =
    let header = c.args.self.now.opening.header in
    let h = c.next.new.seat.front in
    was_derived header h c.args.id c.in-Ok-Job.job c.in-Ok.done (subst (IsNextSome header h c.args.id) c.in-Ok-Job.field-0-is c.in-Ok-Job.ensures.ok) c.in-Ok.ensures.past

pub returns-in-Err-settle-clause-answer : goal.returns-in-Err-settle-clause-answer
returns-in-Err-settle-clause-answer g c =
    let header = c.args.self.now.opening.header in
    let h = c.settle.new.seat.front in
    subst (λ fault. Answers header h (Derives c.args.id) (fault_answer fault) nothing) (sym c.settle_fault.ensures) (collided header h c.args.id c.in-Err-settle.fault c.in-Err-settle.ensures.err)
