use Rattle.std.proofs.Common.{◌∙◌, sym}
use mathlib.Core.Bool.{true≢false}
use Rattle.node_parts.specs.Parts.{joined}
use Rattle.wide_node.proofs.Fronts.{other_front}
use Rattle.wide_node.proofs.wide.WideNode.is_same.Goals as goal

pub returns-else-eq : goal.returns-else-eq
returns-else-eq c =
    let node = c.self.inside in
    let slice = c.as_slice-front in
    (λ so. absurd (true≢false (sym so ∙ c.if-eq.false)), λ same. absurd (other_front node.front.items (joined node.parts.items) c.args.bytes.now c.split_at.result.0.now slice.result.now c.eq.result slice.ensures.value c.split_at.ensures.front c.eq.ensures c.if-eq.false (c.self.view_is ∙ same)))
