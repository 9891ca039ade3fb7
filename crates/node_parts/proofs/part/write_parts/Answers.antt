use Rattle.node_parts.proofs.Joined.{written}
use Rattle.node_parts.proofs.part.write_parts.Goals as goal

pub loop-part-preserved : goal.loop-part-preserved
loop-part-preserved c =
    written c.args.parts.now c.loop-part.part-index c.part-item.result c.args.out.now.items c.loop-part.out.items c.bytes.result.now c.extend_from_slice.new.self.items c.loop-part-test.true c.part-item.is c.loop-part.invariant c.bytes.ensures c.in_ok-extend_from_slice.ensures.items
