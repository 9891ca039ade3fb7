use Rattle.std.proofs.Common.{◌++◌, take, ap, ◌∙◌}
use Rattle.std.specs.List.{concat}
use Rattle.follower.proofs.Joined.{joined_next}
use Rattle.follower.proofs.line_ask.joined.Goals as goal

pub loop-id-preserved : goal.loop-id-preserved
loop-id-preserved c =
    c.in_ok-extend_from_slice.ensures.items ∙ ap (λ xs. xs ++ c.as_bytes.result.now) c.loop-id.invariant ∙ ap (λ x. concat (take c.loop-id.id-index c.args.ids.now) ++ x) c.as_bytes.ensures.value
    ∙ joined_next c.args.ids.now c.loop-id.id-index c.id-item.result c.loop-id-test.true c.id-item.is
