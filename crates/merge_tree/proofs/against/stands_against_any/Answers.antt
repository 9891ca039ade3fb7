use Rattle.std.proofs.Common.{true, false, sym, ◌∙◌}
use Rattle.history_model.specs.Merge as merge
use Rattle.merge_tree.specs.View.{flat_view}
use Rattle.merge_tree.proofs.Steps.{any_step}
use Rattle.merge_tree.proofs.against.stands_against_any.Goals as goal

pub returns-then-stands_against : goal.returns-then-stands_against
returns-then-stands_against c =
    sym (any_step (merge.stands_against c.args.change.now (flat_view c.args.file.now)) flat_view c.args.others.now c.loop-other.other-index c.other-item.result true c.loop-other-test.true c.other-item.is (sym c.stands_against.ensures ∙ c.if-stands_against.true)) ∙ c.loop-other.invariant

pub loop-other-preserved : goal.loop-other-preserved
loop-other-preserved c =
    sym (any_step (merge.stands_against c.args.change.now (flat_view c.args.file.now)) flat_view c.args.others.now c.loop-other.other-index c.other-item.result false c.loop-other-test.true c.other-item.is (sym c.stands_against.ensures ∙ c.if-stands_against.false)) ∙ c.loop-other.invariant
