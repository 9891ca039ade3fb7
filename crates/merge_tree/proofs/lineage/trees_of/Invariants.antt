use Rattle.std.proofs.Common.{◌≡◌, take, reverse}
use Rattle.merge_tree.specs.View.{members_view}
use Rattle.merge_tree.specs.Lineage.{trees_among}
use Rattle.merge_tree.proofs.lineage.trees_of.Given as goal

-- the trees so far
abbrev pub invariant-loop-member : goal.invariant-loop-member
invariant-loop-member l = l.trees.items ≡ trees_among (reverse (members_view (take l.member-index l.members)))
