use Rattle.std.specs.Prelude.{length}
use Rattle.std.proofs.Common.{◌≡◌, ◌+◌, ◌≤◌}
use Rattle.server_lanes.specs.Lanes.{TakesBack}
use Rattle.server_lanes.proofs.lanes.join_lanes.Given as goal

abbrev pub invariant-loop-lane : goal.invariant-loop-lane
invariant-loop-lane g l = record {
  next : (goal.iterator-loop-lane g).can_next l.lane-iterator;
  ends : (goal.iterator-loop-lane g).is_finite l.lane-iterator;
  lead : TakesBack l.initial.lead (length l.yielded) l.lead;
  parts : l.tally.parts ≡ l.fn.rest.parts + length l.yielded;
  told : length l.yielded ≤ l.tally.told;
  seen : l.tally.sealed ≤ l.lead.sealed;
}
