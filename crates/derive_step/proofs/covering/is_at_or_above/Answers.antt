use Rattle.std.proofs.Common.{ap, sym, ◌∙◌}
use Rattle.std.specs.Prelude.{◌||◌}
use Rattle.changeset_model.specs.Path.{is_strict_prefix}
use Rattle.derive_step.proofs.Paths.{prefix_either}
use Rattle.derive_step.proofs.covering.is_at_or_above.Goals as goal

pub returns-then-eq : goal.returns-then-eq
returns-then-eq c = ap (λ b. b || is_strict_prefix c.args.path.now c.args.dir.now) c.if-eq.ensures ∙ sym (prefix_either c.args.path.now c.args.dir.now)

pub returns : goal.returns
returns c = c.is_strict_prefix.ensures ∙ sym (prefix_either c.args.path.now c.args.dir.now ∙ ap (λ b. b || is_strict_prefix c.args.path.now c.args.dir.now) (sym c.eq.ensures ∙ c.if-eq.false))
