use Rattle.std.proofs.Common.{◌≡◌}
use Rattle.shared_tests.proofs.derivation.check_rows.Given as goal

abbrev pub invariant-loop-row : goal.invariant-loop-row
invariant-loop-row g l = l.seat.lock ≡ l.initial.seat.lock
