use Rattle.std.proofs.Common.{sym, subst, ◌∙◌}
use Rattle.repo_machine.specs.Checking.{Checks}
use Rattle.repo_machine.proofs.Checks.{fine_parent, no_parent, no_more_parents, found_parent}
use Rattle.repo_machine.proofs.uploads.check_parents.Goals as goal

pub returns-in_err-check_parent : goal.returns-in_err-check_parent
returns-in_err-check_parent c =
    subst (Checks c.from_residual.result) c.parents.invariant
    (found_parent c.from_residual.result _ _ _ c.from_residual.ensures.1 c.in_err-check_parent.ensures.unknown.0
    (no_parent _ c.args.parents.now c.parents.parent-index c.parent-item.result c.parents-test.true c.parent-item.is c.in_err-check_parent.ensures.unknown.1))

pub parents-preserved : goal.parents-preserved
parents-preserved c =
    sym (fine_parent _ c.args.parents.now c.parents.parent-index c.parent-item.result c.parents-test.true c.parent-item.is c.in_ok-check_parent.ensures.known) ∙ c.parents.invariant

pub returns : goal.returns
returns c = sym c.parents.invariant ∙ no_more_parents _ c.args.parents.now c.parents.parent-index c.parents-test.false
