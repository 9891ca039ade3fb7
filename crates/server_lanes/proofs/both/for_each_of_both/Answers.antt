use Rattle.std.proofs.Common.{rules}
use Rattle.server_lanes.specs.Both.{IsWorked}
use Rattle.server_lanes.proofs.both.for_each_of_both.Goals as goal

pub returns-clause-first : goal.returns-clause-first
returns-clause-first g c = let done : IsWorked g.F.Fn c.args.f.now c.args.xs.now _ = search rules in done.each

pub returns-clause-second : goal.returns-clause-second
returns-clause-second g c = let done : IsWorked g.G.Fn c.args.g.now c.args.ys.now _ = search rules in done.each
