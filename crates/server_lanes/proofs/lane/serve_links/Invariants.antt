use Rattle.std.proofs.Common.{◌≡◌, ◌≤◌}
use Rattle.bookmark_lock.specs.Place.{home_of}
use Rattle.server_lanes.proofs.lane.serve_links.Given as goal

abbrev pub invariant-loop : goal.invariant-loop
invariant-loop g l =
    (home_of l.lane.place ≡ home_of l.fn.lane.place) × (l.lane.tally.parts ≡ l.fn.lane.tally.parts)
    × (l.fn.lane.tally.sealed ≤ l.fn.lane.place.sealed → l.lane.tally.sealed ≤ l.lane.place.sealed)
