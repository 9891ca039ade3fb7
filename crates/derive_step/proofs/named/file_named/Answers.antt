use Rattle.std.proofs.Common.{sym, ap, arith, ◌∙◌}
use Rattle.std.proofs.lemmas.List.{drop_all}
use Rattle.fsnode.specs.Parts.{children_seen}
use Rattle.derive_step.specs.Steps.{file_now}
use Rattle.derive_step.proofs.FileNames.{named_here, named_later}
use Rattle.derive_step.proofs.named.file_named.Goals as goal

pub loop-child-preserved : goal.loop-child-preserved
loop-child-preserved c =
    named_later c.args.name.now c.args.entries.now c.loop-child.child-index c.child-item.result c.loop-child-test.true c.child-item.is (sym c.has_name.ensures ∙ c.if-has_name.false)
    ∙ c.loop-child.invariant

pub returns-then-has_name : goal.returns-then-has_name
returns-then-has_name c =
    c.file_of.ensures
    ∙ named_here c.args.name.now c.args.entries.now c.loop-child.child-index c.child-item.result c.loop-child-test.true c.child-item.is (sym c.has_name.ensures ∙ c.if-has_name.true)
    ∙ c.loop-child.invariant

pub returns : goal.returns
returns c =
    ap (λ es. file_now (children_seen es) c.args.name.now) (sym (drop_all c.loop-child.child-index c.args.entries.now (omega (arith, c.loop-child-test.false))))
    ∙ c.loop-child.invariant
