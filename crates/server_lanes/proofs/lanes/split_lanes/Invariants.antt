use Rattle.std.specs.Prelude.{All, vec_capacity, vec_len}
use Rattle.std.proofs.Common.{◌≡◌, ◌+◌, ◌-◌, ◌≤◌}
use Rattle.server_lanes.specs.Lanes.{IsAt}
use Rattle.server_lanes.proofs.lanes.split_lanes.Given as goal

abbrev pub invariant-loop : goal.invariant-loop
invariant-loop g l =
    (l.lead ≡ record l.initial.lead { split = l.initial.lead.split + l.counter; out = l.initial.lead.out + l.counter })
    × (l.tally ≡ record { parts = l.lanes - l.counter; served = 0; sealed = 0; told = 0 })
    × (vec_len l.made ≡ l.counter)
    × (l.lanes ≤ vec_capacity l.made)
    × All (IsAt l.repo) l.made.items
