use Rattle.std.proofs.Common.{◌≡◌, ◌++◌, take}
use Rattle.node_parts.specs.Parts.{joined}
use Rattle.node_parts.proofs.part.write_parts.Given as goal

abbrev pub invariant-loop-part : goal.invariant-loop-part
invariant-loop-part l = l.out.items ≡ l.fn.out.items ++ joined (take l.part-index l.parts)
