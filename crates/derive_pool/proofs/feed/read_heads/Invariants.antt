use Rattle.std.proofs.Common.{◌≡◌, ◌≤◌}
use Rattle.derive_pool.proofs.feed.read_heads.Given as goal

abbrev pub invariant-loop : goal.invariant-loop
invariant-loop g l = record {
  home : g.S.Seat.home l.seat ≡ g.S.Seat.home l.fn.seat;
  seals : g.S.Seat.sealed l.fn.seat ≤ g.S.Seat.sealed l.seat;
}
