use Rattle.std.proofs.Common.{sym, subst, ◌∙◌, arith}
use Rattle.known_merge.proofs.Places.{Grown, one_grown, none_grown, all_grown, longer, place_known}
use Rattle.known_merge.proofs.left.lineage_of.Goals as goal

pub loop-number-init : goal.loop-number-init
loop-number-init c = subst (Grown c.args.store.now.known 0) (sym c.new-lineage.ensures.none) (none_grown c.args.store.now.known)

pub add-requires : goal.add-requires
add-requires c =
    let same = longer c.args.store.now.known c.loop-number.number _ c.loop-number.invariant in
    let len = c.len-number-end.ensures.len in
    let few = c.len-number-end.ensures.few in
    let below = c.loop-number-test.true in
    omega arith

pub loop-number-preserved : goal.loop-number-preserved
loop-number-preserved c =
    let ks = c.args.store.now.known in
    let len = c.len-number-end.ensures.len in
    let below = c.loop-number-test.true in
    one_grown ks c.len-number-end.ensures.ids c.len-number-end.ensures.distinct c.len-number-end.ensures.parents_known c.loop-number.number _ c.loop-number.invariant (omega arith)
    _ _ c.parent.ensures.parent c.second_parent.ensures.parent _ (c.changeset.ensures ∙ c.at.ensures) _ c.in_ok-add.ensures.known

pub returns-clause-lineage : goal.returns-clause-lineage
returns-clause-lineage c =
    let len = c.len-number-end.ensures.len in
    let past = c.loop-number-test.false in
    all_grown c.args.store.now.known c.loop-number.number _ c.loop-number.invariant (omega arith)

pub returns-clause-places : goal.returns-clause-places
returns-clause-places c = place_known c.args.store.now.known c.len-number-end.ensures.ids c.len-number-end.ensures.distinct c.len-number-end.ensures.parents_known
