use Rattle.std.proofs.Common.{ap, sym, ◌∙◌}
use Rattle.bonsai.specs.View.{change_view}
use Rattle.derive_step.specs.Walk.{both_seen, edited}
use Rattle.derive_step.proofs.walk.edited.Goals as goal

pub returns-in-Delete-clause-both : goal.returns-in-Delete-clause-both
returns-in-Delete-clause-both g c =
    (λ i. (c.without_file.ensures i, c.without_file-in-Delete.ensures i))
    ∙ ap (λ change. edited (g.K.Kind.set c.args.kind.now c.args.edit.now.path) g.K.Kind.is_file (change_view change) (both_seen g.K.Kind.seen c.args.before)) (sym c.in-Delete.is)
