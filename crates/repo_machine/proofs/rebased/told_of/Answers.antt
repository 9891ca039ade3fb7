use Rattle.std.proofs.Common.{sym, ap, ◌∙◌}
use Rattle.changeset_model.specs.Version.{is_second}
use Rattle.repo_machine.proofs.Rebasing.{one_passed, one_found, none_at_all}
use Rattle.repo_machine.proofs.rebased.told_of.Goals as goal

pub returns-then-is_second : goal.returns-then-is_second
returns-then-is_second c =
    one_found c.args.stack.now c.stack.commit-index c.commit-item.result c.args.moment c.stack-test.true c.commit-item.is
    (sym (c.is_second.ensures ∙ ap is_second (c.version.ensures ∙ ap (λ m. m.version) (c.changeset.ensures ∙ c.deref.ensures))) ∙ c.if-is_second.true) c.stack.invariant

pub stack-preserved : goal.stack-preserved
stack-preserved c =
    one_passed c.args.stack.now c.stack.commit-index c.commit-item.result c.stack-test.true c.commit-item.is
    (sym (c.is_second.ensures ∙ ap is_second (c.version.ensures ∙ ap (λ m. m.version) (c.changeset.ensures ∙ c.deref.ensures))) ∙ c.if-is_second.false) c.stack.invariant

pub returns : goal.returns
returns c = none_at_all c.args.stack.now c.stack.commit-index c.args.moment c.stack-test.false c.stack.invariant
