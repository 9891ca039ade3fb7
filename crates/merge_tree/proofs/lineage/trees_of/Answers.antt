use Rattle.std.proofs.Common.{◌≡◌, ◌++◌, ◌∷◌, [], take, reverse, sym, ◌∙◌}
use Rattle.history_model.specs.Tree.{files_in}
use Rattle.merge_tree.specs.View.{member_view, members_view}
use Rattle.merge_tree.specs.Lineage.{past_on_members}
use Rattle.merge_tree.proofs.Members.{trees_more}
use Rattle.merge_tree.proofs.lineage.trees_of.Goals as goal

pub loop-member-preserved : goal.loop-member-preserved
loop-member-preserved c =
    let i = c.loop-member.member-index in
    let ms = c.args.members.now in
    let m = c.member-item.result in
    let older = reverse (members_view (take i ms)) in
    let before = c.loop-member.invariant in
    let is : c.in_ok-tree.tree ≡ files_in (past_on_members (member_view m) older) = c.in_ok-tree.ensures older (c.as_slice.ensures.value ∙ before) in
    c.in_ok-push.ensures.items ∙ (λ j. before j ++ is j ∷ []) ∙ sym (trees_more ms i m c.loop-member-test.true c.member-item.is)
