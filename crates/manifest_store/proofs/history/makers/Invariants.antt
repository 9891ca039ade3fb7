use Rattle.std.proofs.Common.{ℕ}
use Rattle.changeset_model.specs.Path.{Path}
use Rattle.manifest_store.specs.Histories.{IsFileNode, left_seen}
use Rattle.manifest_store.proofs.Makings.{IsGoing, most_of}
use Rattle.manifest_store.proofs.history.makers.Given as goal

-- the ids so far and those that are left make the history
abbrev pub invariant-loop-file : goal.invariant-loop-file
invariant-loop-file l = (n : ℕ) (p : Path) → IsFileNode l.changesets.known l.unodes.table.now n p l.fn.id → IsGoing l.changesets.known l.unodes.table.now n p (left_seen l.left) l.ids.items

abbrev pub decreases-loop-file : goal.decreases-loop-file
decreases-loop-file l = most_of (left_seen l.left)
