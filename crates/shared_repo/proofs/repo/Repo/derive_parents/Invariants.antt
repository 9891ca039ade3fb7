use Rattle.std.proofs.Common.{◌≡◌, ◌≤◌}
use Rattle.bookmark_lock.specs.Place.{moved}
use Rattle.reply_model.specs.After.{SeesMore}
use Rattle.shared_repo.specs.Sealed.{IsLater}
use Rattle.shared_repo.proofs.repo.Repo.derive_parents.Given as goal

abbrev pub invariant-loop-parent : goal.invariant-loop-parent
invariant-loop-parent g l = (l.seat ≡ moved l.initial.seat l.seat) × (l.initial.seat.sealed ≤ l.seat.sealed) × IsLater l.initial.seat l.seat × SeesMore l.initial.seat.front l.initial.seat.number l.seat.front
