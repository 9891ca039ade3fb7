use Rattle.std.proofs.Common.{◌<◌, sym, subst, ◌∙◌}
use mathlib.Core.Bool.{true≢false}
use Rattle.node_fields.specs.Children.{children_seen}
use Rattle.derive_step.specs.Merge.{whole}
use Rattle.derive_step.proofs.Merged.{none_after, none_found, none_without, rest_merge, rest_after, one_found, one_without, some_there}
use Rattle.derive_step.proofs.merge.take.Goals as goal

pub returns-then-not-is_next-clause-after : goal.returns-then-not-is_next-clause-after
returns-then-not-is_next-clause-after g c =
    let p = c.in_ok-pass.ensures in
    none_after g.K.Kind.seen g.K.Kind.is_kept c.args.name.now (children_seen g.K.Kind.seen c.pass.new.entries.done.items) c.pass.new.entries.left.items (whole g.K.Kind.seen c.args.entries.now) p.before p.merge p.same p.next (sym c.is_next.ensures ∙ c.if-not-is_next.true)

pub returns-then-not-is_next-clause-found : goal.returns-then-not-is_next-clause-found
returns-then-not-is_next-clause-found g c =
    let p = c.in_ok-pass.ensures in
    none_found g.K.Kind.seen g.K.Kind.is_kept c.args.name.now (children_seen g.K.Kind.seen c.pass.new.entries.done.items) c.pass.new.entries.left.items (whole g.K.Kind.seen c.args.entries.now) p.before p.merge p.same p.next (sym c.is_next.ensures ∙ c.if-not-is_next.true)

pub returns-then-not-is_next-clause-without : goal.returns-then-not-is_next-clause-without
returns-then-not-is_next-clause-without g c =
    let p = c.in_ok-pass.ensures in
    none_without g.K.Kind.seen g.K.Kind.is_kept c.args.name.now (children_seen g.K.Kind.seen c.pass.new.entries.done.items) c.pass.new.entries.left.items (whole g.K.Kind.seen c.args.entries.now) p.before p.merge p.same p.next (sym c.is_next.ensures ∙ c.if-not-is_next.true)

pub unreachable-requires : goal.unreachable-requires
unreachable-requires g c = true≢false (sym (c.in_default.ensures.variant.1 (subst (λ n. 0 < n) (sym c.pass.new.entries.left.ok.0) (some_there c.args.name.now c.pass.new.entries.left.items (sym c.is_next.ensures ∙ c.if-not-is_next.false)))))

pub returns-clause-merge : goal.returns-clause-merge
returns-clause-merge g c =
    let p = c.in_ok-pass.ensures in
    rest_merge g.K.Kind.seen g.K.Kind.is_kept c.args.name.now (children_seen g.K.Kind.seen c.pass.new.entries.done.items) c.pass.new.entries.left.items (whole g.K.Kind.seen c.args.entries.now) p.before p.merge p.same c.in-Some.child c.pop_front.new.self.items c.in-Some.ensures.items (sym c.is_next.ensures ∙ c.if-not-is_next.false)

pub returns-clause-after : goal.returns-clause-after
returns-clause-after g c =
    let p = c.in_ok-pass.ensures in
    rest_after g.K.Kind.seen g.K.Kind.is_kept c.args.name.now (children_seen g.K.Kind.seen c.pass.new.entries.done.items) c.pass.new.entries.left.items (whole g.K.Kind.seen c.args.entries.now) p.before p.merge p.same c.in-Some.child c.pop_front.new.self.items c.in-Some.ensures.items (sym c.is_next.ensures ∙ c.if-not-is_next.false)

pub returns-clause-found : goal.returns-clause-found
returns-clause-found g c =
    let p = c.in_ok-pass.ensures in
    one_found g.K.Kind.seen g.K.Kind.is_kept c.args.name.now (children_seen g.K.Kind.seen c.pass.new.entries.done.items) c.pass.new.entries.left.items (whole g.K.Kind.seen c.args.entries.now) p.before p.merge p.same c.in-Some.child c.pop_front.new.self.items c.in-Some.ensures.items (sym c.is_next.ensures ∙ c.if-not-is_next.false)

pub returns-clause-without : goal.returns-clause-without
returns-clause-without g c =
    let p = c.in_ok-pass.ensures in
    one_without g.K.Kind.seen g.K.Kind.is_kept c.args.name.now (children_seen g.K.Kind.seen c.pass.new.entries.done.items) c.pass.new.entries.left.items (whole g.K.Kind.seen c.args.entries.now) p.before p.merge p.same c.in-Some.child c.pop_front.new.self.items c.in-Some.ensures.items (sym c.is_next.ensures ∙ c.if-not-is_next.false)
