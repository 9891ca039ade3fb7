use Rattle.std.proofs.Common.{sym, subst, ◌∙◌}
use Rattle.repo_machine.specs.Checking.{Checks}
use Rattle.repo_machine.proofs.Checks.{next_edit, fine_edit, no_edits, found_first}
use Rattle.repo_machine.proofs.uploads.check_contents.Goals as goal

pub returns-in_err-check_edit : goal.returns-in_err-check_edit
returns-in_err-check_edit c =
    subst (Checks c.from_residual.result) (sym (next_edit _ c.args.edits.now c.edits.edit-index c.edit-item.result c.edits-test.true c.edit-item.is) ∙ c.edits.invariant)
    (found_first c.from_residual.result _ _ _ c.from_residual.ensures.1 c.in_err-check_edit.ensures)

pub edits-preserved : goal.edits-preserved
edits-preserved c =
    sym (fine_edit _ c.args.edits.now c.edits.edit-index c.edit-item.result c.edits-test.true c.edit-item.is c.in_ok-check_edit.ensures) ∙ c.edits.invariant

pub returns : goal.returns
returns c = sym c.edits.invariant ∙ no_edits _ c.args.edits.now c.edits.edit-index c.edits-test.false
