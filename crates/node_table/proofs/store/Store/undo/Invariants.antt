use Rattle.std.proofs.Common.{◌≡◌, vec_len}
use Rattle.node_table.specs.Table.{without}
use Rattle.node_table.proofs.store.Store.undo.Given as goal

abbrev pub invariant-loop-id : goal.invariant-loop-id
invariant-loop-id l = without l.noted.items l.self ≡ without l.fn.noted.items l.fn.self

abbrev pub decreases-loop-id : goal.decreases-loop-id
decreases-loop-id l = vec_len l.noted
