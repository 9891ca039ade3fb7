use Rattle.std.proofs.Common.{◌≡◌, ◌≤◌, ◌+◌, ◌-◌, ℕ, List, length, max}
use Rattle.follower.specs.Receiving.{IsAhead, IsReady}
use Rattle.follower.proofs.inbox.receive.Given as goal

abbrev pub invariant-pieces : goal.invariant-pieces
invariant-pieces g l = record {
  ahead : (bytes : List ℕ) → IsAhead l.fn.inbox.held.items (g.L.Link.rest l.fn.link) bytes → IsAhead l.inbox.held.items (g.L.Link.rest l.link) bytes;
  ready : IsReady l.inbox;
  room : length l.inbox.held.items ≤ max (length l.fn.inbox.held.items) (16384 + l.limit);
  output : g.L.Link.written l.link ≡ g.L.Link.written l.fn.link;
  faults : g.L.Link.faults l.fn.link ≤ g.L.Link.faults l.link;
}

abbrev pub decreases-pieces : goal.decreases-pieces
decreases-pieces g l = (16384 + l.limit) - length l.inbox.held.items
