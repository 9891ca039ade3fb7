use Rattle.std.specs.Option.{option_copied}
use Rattle.node_parts.proofs.Cut.{HasCut}
use Rattle.node_parts.proofs.cutting.parts_of.Given as goal

abbrev pub invariant-parts : goal.invariant-parts
invariant-parts g l = HasCut g.E.Entry.reader l.bytes l.count l.parts.items (option_copied l.last) l.left l.remaining

abbrev pub decreases-parts : goal.decreases-parts
decreases-parts g l = l.remaining
