use Rattle.std.proofs.Common.{◌<◌, ap, sym, subst, ◌∙◌}
use mathlib.Core.Bool.{true≢false}
use Rattle.node_fields.specs.Children.{children_seen}
use Rattle.derive_step.specs.Merge.{is_before}
use Rattle.derive_step.proofs.Merged.{before_push, first_less, moved, moved_same, some_left}
use Rattle.derive_step.proofs.merge.pass.Goals as goal

pub unreachable-requires : goal.unreachable-requires
unreachable-requires g c = true≢false (sym (c.in_default.ensures.variant.1 (subst (λ n. 0 < n) (sym c.passing.entries.left.ok.0) (some_left c.args.name.now c.passing.entries.left.items (sym c.is_next_before.ensures ∙ c.passing-test.true)))))

pub passing-preserved : goal.passing-preserved
passing-preserved g c =
    let seen = g.K.Kind.seen in
    let child = c.in-Some.child in
    let xs = children_seen seen c.passing.entries.done.items in
    let ys = children_seen seen c.passing.entries.left.items in
    let left = ap (children_seen seen) c.in-Some.ensures.items in
    record {
      merge = moved g.K.Kind.is_kept xs ys (children_seen seen c.push_child.new.children.items) (children_seen seen c.pop_front.new.self.items) (child.name, seen child.entry) left c.in_ok-push_child.ensures.pushed c.push_child.ensures.element c.push_child.ensures.fields c.passing.invariant.merge;
      before = ap (λ zs. is_before c.args.name.now zs) c.in_ok-push_child.ensures.pushed ∙ before_push c.args.name.now xs (child.name, seen child.entry) c.passing.invariant.before (first_less c.args.name.now c.passing.entries.left.items child c.pop_front.new.self.items c.in-Some.ensures.items (sym c.is_next_before.ensures ∙ c.passing-test.true));
      same = moved_same g.K.Kind.is_kept xs ys (children_seen seen c.push_child.new.children.items) (children_seen seen c.pop_front.new.self.items) (child.name, seen child.entry) left c.in_ok-push_child.ensures.pushed ∙ c.passing.invariant.same;
    }

pub returns-clause-next : goal.returns-clause-next
returns-clause-next g c = sym c.is_next_before.ensures ∙ c.passing-test.false
