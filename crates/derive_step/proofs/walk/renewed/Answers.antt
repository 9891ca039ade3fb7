use Rattle.std.proofs.Common.{ap, sym, ◌∙◌}
use Rattle.std.specs.Prelude.{option_map}
use Rattle.derive_step.specs.Walk.{both_seen, renewed}
use Rattle.derive_step.proofs.walk.renewed.Goals as goal

pub returns-in-None : goal.returns-in-None
returns-in-None g c =
    (λ i. (c.without_dir.ensures i, c.without_dir-in-None.ensures i))
    ∙ ap (λ t. renewed (option_map g.K.Kind.seen t) g.K.Kind.is_file (both_seen g.K.Kind.seen c.args.before)) (sym c.in-None.is)
