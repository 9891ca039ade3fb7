use Rattle.std.proofs.Common.{◌≡◌}
use Rattle.bookmark_lock.specs.Place.{moved}
use Rattle.run_gen.specs.Running.{IsAt}
use Rattle.run_gen.proofs.clients.land_all.Given as goal

abbrev pub invariant-loop-stack : goal.invariant-loop-stack
invariant-loop-stack g l =
    (l.seat ≡ moved l.initial.seat l.seat)
    × IsAt l.repo.opening.header l.initial.seat.number l.initial.seat.front l.number l.seed l.stack l.parent l.draws l.seat.front
