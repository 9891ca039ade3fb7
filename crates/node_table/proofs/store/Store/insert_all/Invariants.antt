use Rattle.std.proofs.Common.{◌≡◌}
use Rattle.std.specs.Vec.Iter.{into_iter_items, into_iter_len}
use Rattle.node_table.specs.Table.{first_collision, with_nodes, without}
use Rattle.node_table.proofs.store.Store.insert_all.Given as goal

abbrev pub invariant-loop-node : goal.invariant-loop-node
invariant-loop-node l = record {
  undo : without l.noted.items l.self ≡ without l.fn.noted.items l.fn.self;
  put : with_nodes l.self (into_iter_items l.rest) ≡ with_nodes l.fn.self l.fn.nodes.items;
  apart : first_collision l.self (into_iter_items l.rest) ≡ first_collision l.fn.self l.fn.nodes.items;
}

abbrev pub decreases-loop-node : goal.decreases-loop-node
decreases-loop-node l = into_iter_len l.rest
