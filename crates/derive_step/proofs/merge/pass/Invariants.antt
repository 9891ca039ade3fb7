use Rattle.std.proofs.Common.{◌≡◌, true, length}
use Rattle.node_fields.specs.Children.{children_seen}
use Rattle.derive_step.specs.Merge.{IsMerge, is_before, whole}
use Rattle.derive_step.proofs.merge.pass.Given as goal

abbrev pub invariant-passing : goal.invariant-passing
invariant-passing g l = record {
  merge : IsMerge g.K.Kind.is_kept (children_seen g.K.Kind.seen l.entries.done.items) (children_seen g.K.Kind.seen l.entries.left.items);
  before : is_before l.name (children_seen g.K.Kind.seen l.entries.done.items) ≡ true;
  same : whole g.K.Kind.seen l.entries ≡ whole g.K.Kind.seen l.fn.entries;
}

abbrev pub decreases-passing : goal.decreases-passing
decreases-passing g l = length l.entries.left.items
