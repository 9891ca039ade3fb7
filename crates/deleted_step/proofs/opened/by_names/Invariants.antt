use Rattle.std.proofs.Common.{length}
use Rattle.deleted_step.proofs.Entries.{AreTaken}
use Rattle.deleted_step.proofs.opened.by_names.Given as goal

-- what is left, and else what was put in, is what all have
abbrev pub invariant-loop-child : goal.invariant-loop-child
invariant-loop-child l = AreTaken l.fn.children.items l.left.items l.entries

abbrev pub decreases-loop-child : goal.decreases-loop-child
decreases-loop-child l = length l.left.items
