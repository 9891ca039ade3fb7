use Rattle.std.proofs.Common.{true, false, sym, ◌∙◌}
use Rattle.history_model.specs.Tree as trees
use Rattle.bonsai.specs.View.{edit_view}
use Rattle.merge_tree.proofs.Steps.{any_step}
use Rattle.merge_walk.proofs.decided.is_decided.Goals as goal

pub returns-then-decides_at : goal.returns-then-decides_at
returns-then-decides_at c =
    sym (any_step (λ e. trees.decides_at e.1 e.0 c.args.path.now) edit_view c.args.edits.now c.loop-edit.edit-index c.edit-item.result true c.loop-edit-test.true c.edit-item.is (sym c.decides_at.ensures ∙ c.if-decides_at.true)) ∙ c.loop-edit.invariant

pub loop-edit-preserved : goal.loop-edit-preserved
loop-edit-preserved c =
    sym (any_step (λ e. trees.decides_at e.1 e.0 c.args.path.now) edit_view c.args.edits.now c.loop-edit.edit-index c.edit-item.result false c.loop-edit-test.true c.edit-item.is (sym c.decides_at.ensures ∙ c.if-decides_at.false)) ∙ c.loop-edit.invariant
