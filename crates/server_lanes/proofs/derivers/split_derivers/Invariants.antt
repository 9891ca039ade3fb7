use Rattle.std.specs.Prelude.{All, vec_capacity, vec_len}
use Rattle.std.proofs.Common.{◌≡◌, ◌+◌, ◌≤◌}
use Rattle.server_lanes.specs.Derivers.{AreNumbered, IsIdle}
use Rattle.server_lanes.proofs.derivers.split_derivers.Given as goal

abbrev pub invariant-loop : goal.invariant-loop
invariant-loop g l =
    (l.lead ≡ record l.initial.lead { split = l.initial.lead.split + l.counter; out = l.initial.lead.out + l.counter })
    × (vec_len l.made ≡ l.counter)
    × (l.derivers ≤ vec_capacity l.made)
    × (vec_len l.ends + l.counter ≡ l.derivers)
    × All (IsIdle l.repo) l.made.items
    × AreNumbered (l.initial.lead.split + 1) l.made.items
