use Rattle.std.specs.Prelude.{vec_len}
use Rattle.std.proofs.Common.{◌≡◌}
use Rattle.server_lanes.proofs.crew.make_ends.Given as goal

abbrev pub invariant-loop : goal.invariant-loop
invariant-loop l = vec_len l.made ≡ l.counter
