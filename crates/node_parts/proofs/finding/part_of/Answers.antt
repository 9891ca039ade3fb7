use Rattle.std.proofs.Common.{arith}
use Rattle.node_parts.proofs.Halves.{last_there}
use Rattle.node_parts.proofs.finding.part_of.Goals as goal

pub returns : goal.returns
returns c =
    let at = c.halving.invariant in
    last_there c.args.parts.now c.args.name.now c.index-parts-low.result c.halving.low c.halving.high (omega arith) (omega arith) at.order (omega arith) c.index-parts-low.is at.reached at.past
