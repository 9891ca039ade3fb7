use Rattle.std.proofs.Common.{◌≤◌, ◌-◌}
use Rattle.std.specs.Prelude.{vec_capacity, vec_len}
use Rattle.http_wire.proofs.head.make_room.Given as goal

abbrev pub invariant-filling : goal.invariant-filling
invariant-filling l = record { reserved : 5462 ≤ vec_capacity l.headers }

abbrev pub decreases-filling : goal.decreases-filling
decreases-filling l = l.wanted - vec_len l.headers
