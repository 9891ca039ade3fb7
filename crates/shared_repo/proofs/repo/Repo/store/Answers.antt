use Rattle.std.proofs.Common.{ap, refl}
use Rattle.bookmark_lock.specs.Place.{Place, Site}
use Rattle.repo_calls.specs.Asking.{is_disk_fault, stored_answer}
use Rattle.repo_calls.specs.Calls.{call_seen}
use Rattle.repo_machine.specs.Prepared.{asked_by}
use Rattle.shared_repo.proofs.Fronts.{sees_nothing}
use Rattle.shared_repo.proofs.LastTurns.{unless_later}
use Rattle.shared_repo.proofs.Sealings.{sealed_later}
use Rattle.shared_repo.proofs.repo.Repo.store.Goals as goal

pub returns-clause-sealed : goal.returns-clause-sealed
returns-clause-sealed g c =
    let seat = c.args.seat.now in
    let mid = c.derive_parents.new.seat in
    let new = c.store_ready.new.seat in
    sealed_later c.args.self.now.opening.header seat.front mid.front mid.front new.front seat.number mid.number mid.number (call_seen c.args.ask.now) (asked_by c.in-Ok.prepared) (stored_answer c.store_ready.result) new.sealed
    c.derive_parents.ensures.more (ap (λ (p : Place). p.number) c.derive_parents.ensures.seat) (sees_nothing mid.front mid.number) refl c.in-Ok.ensures.asks c.store_ready.ensures.sealed

pub returns-clause-stands : goal.returns-clause-stands
returns-clause-stands g c =
    unless_later c.args.self.now.opening c.args.seat.now c.derive_parents.new.seat c.store_ready.new.seat (is_disk_fault c.store_ready.result) c.store_ready.result
    (ap (λ (s : Site). s.opening) c.requires.place) c.derive_parents.ensures.later c.store_ready.ensures.stands
