use Rattle.std.proofs.Common.{◌≡◌, ◌++◌, length}
use Rattle.node_fields.specs.Children.{children_seen}
use Rattle.derive_step.specs.Merge.{IsMerge, whole}
use Rattle.derive_step.proofs.merge.finished.Given as goal

abbrev pub invariant-finishing : goal.invariant-finishing
invariant-finishing g l = record {
  merge : IsMerge g.K.Kind.is_kept (children_seen g.K.Kind.seen l.done.items) (children_seen g.K.Kind.seen l.left.items);
  same : children_seen g.K.Kind.seen l.done.items ++ children_seen g.K.Kind.seen l.left.items ≡ whole g.K.Kind.seen l.fn.entries;
}

abbrev pub decreases-finishing : goal.decreases-finishing
decreases-finishing g l = length l.left.items
