use Rattle.blob_disk.proofs.Walk.{TornUpTo}
use Rattle.blob_disk.proofs.content.tear_up.Given as goal

abbrev pub invariant-loop-i : goal.invariant-loop-i
invariant-loop-i l = TornUpTo l.fill l.stable l.marks l.fn.bytes l.bytes l.i
