use Rattle.std.proofs.Common.{◌<◌, length, take, ap, ◌∙◌, subst, arith, sym}
use Rattle.node_parts.proofs.Joined.{AreSoFar, agrees, cut_is, all_same, differs, is_none, other_len, other_part, same_part}
use Rattle.node_parts.proofs.part.parts_are.Goals as goal

pub comparing-init : goal.comparing-init
comparing-init c = (λ e. e, λ e. e)

pub returns-then-left-part : goal.returns-then-left-part
returns-then-left-part c =
    let at = c.comparing in
    let short : length at.left.now < length c.part-item.result = (let same = ap length c.bytes-part.ensures in omega arith) in
    (λ t. absurd cc, λ e. absurd (other_len c.args.parts.now at.part-index c.part-item.result c.comparing-test.true c.part-item.is c.args.bytes.now at.left.now at.invariant short e))

pub returns-then-ne : goal.returns-then-ne
returns-then-ne c =
    let at = c.comparing in
    let part = c.bytes-part in
    let front = c.split_at.result.0.now in
    (λ t. absurd cc, λ e. absurd (other_part c.args.parts.now at.part-index c.part-item.result c.comparing-test.true c.part-item.is c.args.bytes.now at.left.now at.invariant front (c.split_at.ensures.front ∙ ap (λ p. take (length p) at.left.now) part.ensures) (λ same. differs front part.result.now c.ne.result c.ne.ensures c.if-ne.true (same ∙ sym part.ensures)) e))

pub comparing-preserved : goal.comparing-preserved
comparing-preserved c =
    let at = c.comparing in
    let cut = c.split_at.result in
    let same = agrees cut.0.now c.bytes-part.result.now c.ne.result c.ne.ensures c.if-ne.false ∙ c.bytes-part.ensures in
    same_part c.args.parts.now at.part-index c.part-item.result c.comparing-test.true c.part-item.is c.args.bytes.now at.left.now at.invariant cut.0.now cut.1.now (cut_is at.left.now cut.0.now cut.1.now (length c.bytes-part.result.now) c.split_at.ensures.front c.split_at.ensures.back) same

pub returns : goal.returns
returns c =
    let at = c.comparing in
    let end = subst (λ k. AreSoFar c.args.parts.now k c.args.bytes.now at.left.now) (omega arith) at.invariant in
    let all = all_same c.args.parts.now c.args.bytes.now at.left.now end in
    let none = is_none at.left.now c.is_empty.result c.is_empty.ensures in
    (λ so. all.1 (none.0 so), λ e. none.1 (all.0 e))
