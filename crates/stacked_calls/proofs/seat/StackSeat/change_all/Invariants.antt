use Rattle.std.proofs.Common.{◌≡◌, ◌≤◌, ℕ, take}
use Rattle.stacked_calls.specs.Stacking.{calls_seen}
use Rattle.stacked_calls.specs.Chain.{AreGranted}
use Rattle.stacked_calls.proofs.seat.StackSeat.change_all.Given as goal

-- those so far are granted
abbrev pub invariant-loop-ask : goal.invariant-loop-ask
invariant-loop-ask g l = record {
  place : l.at ≡ l.ask-index;
  granted : AreGranted (g.Self.Seat.replies (g.Self.Seat.home l.fn.self) (g.Self.Seat.sealed l.self)) (g.Self.Seat.header l.fn.self) (g.Self.Seat.number l.fn.self) (g.Self.Seat.front l.fn.self) (calls_seen (take l.at l.earlier)) (g.Self.Seat.front l.self);
  header : g.Self.Seat.header l.self ≡ g.Self.Seat.header l.fn.self;
  number : g.Self.Seat.number l.self ≡ g.Self.Seat.number l.fn.self;
  seals : g.Self.Seat.sealed l.fn.self ≤ g.Self.Seat.sealed l.self;
  home : g.Self.Seat.home l.self ≡ g.Self.Seat.home l.fn.self;
}
