use Rattle.std.proofs.Common.{subst}
use Rattle.std.specs.Prelude.{is_err}
use Rattle.bookmark_lock.specs.Place.{Site}
use Rattle.shared_repo.specs.Sealed.{IsLastTurn}
use Rattle.shared_repo.proofs.Turning.{done_last, goes_in, last_turn_in, not_last, seal_turn, sealed_in}
use Rattle.shared_repo.proofs.repo.Repo.seal_turn.Goals as goal

pub enter-requires-clause-turn : goal.enter-requires-clause-turn
enter-requires-clause-turn g c = λ before after answer found ran. seal_turn c.number-who.result c.args.seat.now.number c.args.seat.now.unsealed ran.shown.now before ran.left.now after answer.0 c.number-who.ensures ran.shows ran.leaves ran.met.1.1.1.0

pub returns-clause-goes : goal.returns-clause-goes
returns-clause-goes g c = λ going.
    let t = c.enter.ensures.turn in
    goes_in _ _ c.args.seat.now c.enter.new.seat c.enter.result t c.number-who.result c.number-who.ensures t.ran.shown.now t.ran.left.now t.ran.shows t.ran.leaves c.enter.result c.args.upto (not_last c.enter.result going) t.ran.met.1.1.0 c.requires.keeps

pub returns-clause-seen : goal.returns-clause-seen
returns-clause-seen g c = λ last.
    let t = c.enter.ensures.turn in
    let met = t.ran.met in
    sealed_in _ _ c.args.seat.now c.enter.new.seat c.enter.result t c.number-who.result c.number-who.ensures c.enter.result c.args.upto t.ran.shown.now t.ran.left.now t.ran.shows t.ran.leaves met.1.1.0 c.requires.keeps (done_last c.enter.result _ last met.0) met.1.0

pub returns-clause-stands : goal.returns-clause-stands
returns-clause-stands g c = λ last.
    let t = c.enter.ensures.turn in
    subst (λ (l : Site). IsLastTurn l.opening c.args.seat.now (is_err c.enter.result) c.enter.new.seat) c.requires.place
    (last_turn_in _ _ c.args.seat.now c.enter.new.seat c.enter.result t c.number-who.result c.number-who.ensures t.ran.shown.now t.ran.left.now t.ran.shows t.ran.leaves (is_err c.enter.result) (t.ran.met.1.1.1.1 last))
