use Rattle.std.proofs.Common.{true, false, sym, ◌∙◌}
use Rattle.history_model.specs.Merge as merge
use Rattle.merge_tree.specs.View.{flats_view}
use Rattle.merge_tree.proofs.Steps.{first_step}
use Rattle.merge_tree.proofs.against.first_unresolved.Goals as goal

pub returns-then-is_unresolved : goal.returns-then-is_unresolved
returns-then-is_unresolved c =
    sym (first_step (merge.is_unresolved c.args.change.now (flats_view c.args.others.now)) c.args.files.now c.loop-file.file-index c.file-item.result true c.loop-file-test.true c.file-item.is (sym c.is_unresolved.ensures ∙ c.if-is_unresolved.true)) ∙ c.loop-file.invariant

pub loop-file-preserved : goal.loop-file-preserved
loop-file-preserved c =
    sym (first_step (merge.is_unresolved c.args.change.now (flats_view c.args.others.now)) c.args.files.now c.loop-file.file-index c.file-item.result false c.loop-file-test.true c.file-item.is (sym c.is_unresolved.ensures ∙ c.if-is_unresolved.false)) ∙ c.loop-file.invariant
