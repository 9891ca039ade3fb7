use Rattle.std.proofs.Common.{refl, sym}
use Rattle.std.specs.Prelude.{true, false}
use Rattle.changeset_model.specs.Path.{is_strict_prefix}
use Rattle.merge_walk.proofs.Covering.{either_by}
use Rattle.merge_walk.proofs.decided.is_at_or_above.Goals as goal

pub returns-then-eq : goal.returns-then-eq
returns-then-eq c = either_by c.args.above.now c.args.path.now true (is_strict_prefix c.args.above.now c.args.path.now) c.eq.result (sym c.if-eq.ensures) refl c.if-eq.true

pub returns-else-eq : goal.returns-else-eq
returns-else-eq c = either_by c.args.above.now c.args.path.now false c.is_strict_prefix.result c.is_strict_prefix.result (sym c.if-eq.ensures) (sym c.is_strict_prefix.ensures) refl
