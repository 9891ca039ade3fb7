use Rattle.std.proofs.Common.{◌≡◌}
use Rattle.bookmark_lock.specs.Place.{moved}
use Rattle.shared_repo.specs.Sealed.{GoesOn}
use Rattle.shared_repo.proofs.repo.Repo.seal_in_turns.Given as goal

abbrev pub invariant-loop : goal.invariant-loop
invariant-loop g l = (l.seat ≡ moved l.initial.seat l.seat) × GoesOn l.upto l.initial.seat l.seat
