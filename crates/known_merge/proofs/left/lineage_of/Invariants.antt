use Rattle.known_merge.proofs.Places.{Grown}
use Rattle.known_merge.proofs.left.lineage_of.Given as goal

-- the members so far
abbrev pub invariant-loop-number : goal.invariant-loop-number
invariant-loop-number l = Grown l.store.known l.number l.lineage
