use Rattle.std.proofs.Common.{◌≡◌, drop}
use Rattle.std.specs.List.{list_any}
use Rattle.fsnode.specs.Parts.{children_seen}
use Rattle.merge_walk.specs.Left.{is_left_file}
use Rattle.merge_walk.proofs.left.leaves_here.Given as goal

-- what is left tells the answer
abbrev pub invariant-loop-child : goal.invariant-loop-child
invariant-loop-child l = list_any (is_left_file l.change l.path) (children_seen (drop l.child-index l.entries)) ≡ list_any (is_left_file l.change l.path) (children_seen l.entries)
