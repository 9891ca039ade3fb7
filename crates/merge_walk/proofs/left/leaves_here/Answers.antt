use Rattle.std.proofs.Common.{true, false, sym, ◌∙◌}
use Rattle.fsnode.specs.Parts.{child_seen}
use Rattle.merge_walk.specs.Left.{is_left_file}
use Rattle.merge_tree.proofs.Steps.{any_step}
use Rattle.merge_walk.proofs.left.leaves_here.Goals as goal

pub returns-then-branch : goal.returns-then-branch
returns-then-branch c =
    sym (any_step (is_left_file c.args.change.now c.args.path.now) child_seen c.args.entries.now c.loop-child.child-index c.child-item.result true c.loop-child-test.true c.child-item.is (sym c.in_ok-is_left.ensures ∙ c.if-branch.true)) ∙ c.loop-child.invariant

pub loop-child-preserved : goal.loop-child-preserved
loop-child-preserved c =
    sym (any_step (is_left_file c.args.change.now c.args.path.now) child_seen c.args.entries.now c.loop-child.child-index c.child-item.result false c.loop-child-test.true c.child-item.is (sym c.in_ok-is_left.ensures ∙ c.if-branch.false)) ∙ c.loop-child.invariant
