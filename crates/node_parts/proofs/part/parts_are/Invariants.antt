use Rattle.node_parts.proofs.Joined.{AreSoFar}
use Rattle.node_parts.proofs.part.parts_are.Given as goal

abbrev pub invariant-comparing : goal.invariant-comparing
invariant-comparing l = AreSoFar l.parts l.part-index l.bytes l.left
