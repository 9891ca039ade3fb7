use Rattle.std.proofs.Common.{true, false, sym, ◌∙◌}
use Rattle.bonsai.proofs.Find.{find_step}
use Rattle.bonsai.proofs.edit_list.change_among.Goals as goal

pub returns-then-eq : goal.returns-then-eq
returns-then-eq c =
    sym (find_step c.args.path.now c.args.edits.now c.loop-edit.edit-index c.edit-item.result true c.loop-edit-test.true c.edit-item.is (sym c.eq.ensures ∙ c.if-eq.true)) ∙ c.loop-edit.invariant

pub loop-edit-preserved : goal.loop-edit-preserved
loop-edit-preserved c =
    sym (find_step c.args.path.now c.args.edits.now c.loop-edit.edit-index c.edit-item.result false c.loop-edit-test.true c.edit-item.is (sym c.eq.ensures ∙ c.if-eq.false)) ∙ c.loop-edit.invariant
