use Rattle.std.proofs.Common.{◌+◌, drop, sym, ap, ◌∙◌, arith}
use Rattle.std.specs.Ordering.{nat_cmp, ordering_then}
use Rattle.repo_path.proofs.Order.{text_cmp, path_cmp-texts, cmp-step, cmp-same, cmp-apart, cmp-ended}
use Rattle.repo_path.proofs.path_text.compare.Goals as goal

pub loop-i-preserved : goal.loop-i-preserved
loop-i-preserved c =
    let left = c.args.left.now in
    let right = c.args.right.now in
    let i = c.loop-i.i in
    sym (ap (λ o. ordering_then o (text_cmp (drop (i + 1) left) (drop (i + 1) right))) (cmp-same _ _ c.if-left-i.false))
    ∙ sym (cmp-step left right i (omega arith) (omega arith))
    ∙ c.loop-i.invariant

pub returns-then-left-i : goal.returns-then-left-i
returns-then-left-i c =
    let left = c.args.left.now in
    let right = c.args.right.now in
    let i = c.loop-i.i in
    c.cmp.ensures
    ∙ (λ k. nat_cmp (c.rank.ensures k) (c.rank-then-left-i.ensures k))
    ∙ sym (cmp-apart _ _ (text_cmp (drop (i + 1) left) (drop (i + 1) right)) c.if-left-i.true)
    ∙ sym (cmp-step left right i (omega arith) (omega arith))
    ∙ c.loop-i.invariant
    ∙ sym (path_cmp-texts left right)

pub returns : goal.returns
returns c =
    let left = c.args.left.now in
    let right = c.args.right.now in
    c.cmp-2.ensures ∙ sym (cmp-ended left right c.loop-i.i (omega arith) (omega arith) (omega arith)) ∙ c.loop-i.invariant ∙ sym (path_cmp-texts left right)
