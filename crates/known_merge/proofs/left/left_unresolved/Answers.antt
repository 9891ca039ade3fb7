use Rattle.std.proofs.Common.{◌≡◌, true, drop, length, sym, ap, ◌∙◌, arith}
use Rattle.std.specs.List.{AllByRecursion}
use Rattle.history_model.specs.History.{is_known}
use Rattle.history_model.specs.Chain.{changesets}
use Rattle.reply_model.specs.Reply.{unresolved_of}
use Rattle.known_merge.proofs.Places.{length_lineage, of_two, told, two_of}
use Rattle.known_merge.proofs.left.left_unresolved.Goals as goal

pub tree_of-requires : goal.tree_of-requires
tree_of-requires c =
    let here = c.in-Some.ensures.in_range in
    let long = ap (λ ms. length ms) c.in_ok-lineage.ensures.lineage ∙ length_lineage c.args.store.now.known in
    omega arith

pub tree_of-requires-2 : goal.tree_of-requires-2
tree_of-requires-2 c =
    let here = c.in-Some-number_of.ensures.in_range in
    let long = ap (λ ms. length ms) c.in_ok-lineage.ensures.lineage ∙ length_lineage c.args.store.now.known in
    omega arith

pub returns : goal.returns
returns c =
    let ks = c.args.store.now.known in
    let m = c.args.change.now in
    let first = c.first-item.result in
    let second = c.second-item.result in
    told (AllByRecursion (λ p. is_known ks p ≡ true) m.parents) c.unresolved.result _ (unresolved_of ks m m.parents) c.unresolved.ensures
    (of_two ks c.in_ok-lineage.ensures.ids m first second (drop 2 c.parents.result.now) (sym c.parents.ensures.parents ∙ two_of c.parents.result.now c.in-len2-up.len_at_least first second c.first-item.is c.second-item.is) _ _
    (c.in_ok-left.ensures.known (changesets ks) first c.in_ok-lineage.ensures.lineage (c.in_ok-lineage.ensures.places first ∙ sym c.number_of.ensures.number ∙ c.in-Some.is))
    (c.in_ok-right.ensures.known (changesets ks) second c.in_ok-lineage.ensures.lineage (c.in_ok-lineage.ensures.places second ∙ sym c.number_of-2.ensures.number ∙ c.in-Some-number_of.is)))
