use Rattle.std.proofs.Common.{◌≡◌}
use Rattle.node_table.proofs.store.Store.cut_all.Given as goal

abbrev pub invariant-loop-id : goal.invariant-loop-id
invariant-loop-id l = l.self ≡ l.fn.self
