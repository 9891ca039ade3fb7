use Rattle.std.proofs.Common.{ap, ◌∙◌}
use Rattle.node_fields.specs.Children.{children_seen}
use Rattle.derive_step.proofs.Merged.{moved, moved_same}
use Rattle.derive_step.proofs.merge.finished.Goals as goal

pub finishing-preserved : goal.finishing-preserved
finishing-preserved g c =
    let seen = g.K.Kind.seen in
    let child = c.in-Some.child in
    let xs = children_seen seen c.finishing.done.items in
    let ys = children_seen seen c.finishing.left.items in
    let left = ap (children_seen seen) c.in-Some.ensures.items in
    record {
      merge = moved g.K.Kind.is_kept xs ys (children_seen seen c.push_child.new.children.items) (children_seen seen c.pop_front.new.self.items) (child.name, seen child.entry) left c.in_ok-push_child.ensures.pushed c.push_child.ensures.element c.push_child.ensures.fields c.finishing.invariant.merge;
      same = moved_same g.K.Kind.is_kept xs ys (children_seen seen c.push_child.new.children.items) (children_seen seen c.pop_front.new.self.items) (child.name, seen child.entry) left c.in_ok-push_child.ensures.pushed ∙ c.finishing.invariant.same;
    }
