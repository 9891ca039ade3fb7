use Rattle.std.proofs.Common.{◌≡◌}
use Rattle.derive_pool.specs.Pool.{DerivesAll}
use Rattle.derive_pool.proofs.pool.derive_each.Given as goal

abbrev pub invariant-loop-id : goal.invariant-loop-id
invariant-loop-id g l = record {
  next : (goal.iterator-loop-id g).can_next l.id-iterator;
  ends : (goal.iterator-loop-id g).is_finite l.id-iterator;
  derived : DerivesAll g.S.Derives.derives l.initial.seat l.yielded l.seat;
  home : g.S.Derives.home l.seat ≡ g.S.Derives.home l.initial.seat;
  own : g.S.Derives.own l.seat ≡ g.S.Derives.own l.initial.seat;
}
