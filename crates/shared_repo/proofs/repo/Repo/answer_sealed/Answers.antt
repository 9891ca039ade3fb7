use Rattle.std.proofs.Common.{subst, sym}
use Rattle.shared_repo.specs.Sealed.{IsEntered, IsLastTurn, IsTold}
use Rattle.shared_repo.proofs.LastTurns.{turn_still, undone}
use Rattle.shared_repo.proofs.Sealings.{answered_sealed, fault_sealed}
use Rattle.shared_repo.proofs.repo.Repo.answer_sealed.Goals as goal

pub returns-in-Ok-clause-sealed : goal.returns-in-Ok-clause-sealed
returns-in-Ok-clause-sealed g c = λ header old call same entered.
    answered_sealed header old call c.in-Ok.placed c.args.seat.now c.see_sealed.new.seat same (subst (λ e. IsEntered header old call e c.args.seat.now.front) c.in-Ok.is entered) c.see_sealed.ensures.seen c.see_sealed.result c.see_sealed.ensures.ok c.see_sealed.ensures.err

pub returns-in-Err-clause-sealed : goal.returns-in-Err-clause-sealed
returns-in-Err-clause-sealed g c = λ header old call same entered.
    fault_sealed header old call c.in-Err.fault c.args.seat.now.front c.args.seat.now.sealed (subst (λ e. IsEntered header old call e c.args.seat.now.front) c.in-Err.is entered)

pub returns-in-Err-clause-none : goal.returns-in-Err-clause-none
returns-in-Err-clause-none g c = (subst (λ e. IsTold e c.args.seat.now) c.in-Err.is c.requires.told).0

pub returns-in-Err-clause-stands : goal.returns-in-Err-clause-stands
returns-in-Err-clause-stands g c =
    let told = subst (λ e. IsTold e c.args.seat.now) c.in-Err.is c.requires.told in
    subst (λ b. IsLastTurn c.args.self.now.opening c.args.seat.now b c.args.seat.now) (sym (undone c.in-Err.fault told.1)) (turn_still c.args.self.now.opening c.args.seat.now c.requires.stands)
