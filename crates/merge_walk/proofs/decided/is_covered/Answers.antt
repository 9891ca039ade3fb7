use Rattle.std.proofs.Common.{true, false, sym, ◌∙◌}
use Rattle.manifest_laws.specs.Changes as changes
use Rattle.bonsai.specs.View.{edit_view}
use Rattle.merge_tree.proofs.Steps.{any_step}
use Rattle.merge_walk.proofs.decided.is_covered.Goals as goal

pub returns-then-covers_at : goal.returns-then-covers_at
returns-then-covers_at c =
    sym (any_step (λ e. changes.covers e c.args.path.now) edit_view c.args.edits.now c.loop-edit.edit-index c.edit-item.result true c.loop-edit-test.true c.edit-item.is (sym c.covers_at.ensures ∙ c.if-covers_at.true)) ∙ c.loop-edit.invariant

pub loop-edit-preserved : goal.loop-edit-preserved
loop-edit-preserved c =
    sym (any_step (λ e. changes.covers e c.args.path.now) edit_view c.args.edits.now c.loop-edit.edit-index c.edit-item.result false c.loop-edit-test.true c.edit-item.is (sym c.covers_at.ensures ∙ c.if-covers_at.false)) ∙ c.loop-edit.invariant
