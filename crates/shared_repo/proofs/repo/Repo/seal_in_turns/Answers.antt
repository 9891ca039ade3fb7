use Rattle.std.proofs.Common.{ap}
use Rattle.bookmark_lock.specs.Place.{Site}
use Rattle.shared_repo.proofs.Laters.{goes_then, last_later, seen_later, stored_later}
use Rattle.shared_repo.proofs.Turning.{moved_twice}
use Rattle.shared_repo.proofs.repo.Repo.seal_in_turns.Goals as goal

pub seal_round-requires-clause-upto : goal.seal_round-requires-clause-upto
seal_round-requires-clause-upto g c = stored_later c.args.upto c.args.seat.now c.loop.seat c.loop.invariant.1 c.requires.upto

pub seal_round-requires-clause-keeps : goal.seal_round-requires-clause-keeps
seal_round-requires-clause-keeps g c = c.loop.invariant.1.keeps

pub returns-in-Some-seal_round-clause-stands : goal.returns-in-Some-seal_round-clause-stands
returns-in-Some-seal_round-clause-stands g c =
    last_later c.args.upto c.args.self.now.opening c.args.seat.now c.loop.seat c.seal_round.new.seat (ap (λ (s : Site). s.opening) c.requires.place) c.loop.invariant.1 c.in-Some-seal_round.ensures.stands

pub returns-in-Some-seal_round-clause-seen : goal.returns-in-Some-seal_round-clause-seen
returns-in-Some-seal_round-clause-seen g c = seen_later c.args.upto c.args.seat.now c.loop.seat c.seal_round.new.seat c.loop.invariant.1 c.in-Some-seal_round.ensures.seen

pub loop-preserved : goal.loop-preserved
loop-preserved g c = (
  moved_twice c.args.seat.now c.loop.seat c.seal_round.new.seat c.loop.invariant.0 c.seal_round.ensures.seat,
  goes_then c.args.upto c.args.seat.now c.loop.seat c.seal_round.new.seat c.loop.invariant.1 c.in_default.ensures.goes,
)
