use Rattle.std.proofs.Common.{length}
use Rattle.node_parts.proofs.pool.number_of.Given as goal

abbrev pub decreases-loop-left : goal.decreases-loop-left
decreases-loop-left l = length l.left
