use Rattle.std.proofs.Common.{◌≡◌, ◌++◌, drop}
use Rattle.std.specs.Prelude.{filter_map}
use Rattle.fsnode.specs.Parts.{children_seen}
use Rattle.merge_walk.specs.Left.{dir_in}
use Rattle.merge_walk.specs.View.{dirs_seen}
use Rattle.merge_walk.proofs.left.push_dirs.Given as goal

-- what was added, with what is left to be, is all
abbrev pub invariant-loop-child : goal.invariant-loop-child
invariant-loop-child l = dirs_seen l.rest.items ++ filter_map (dir_in l.path) (children_seen (drop l.child-index l.entries)) ≡ dirs_seen l.fn.rest.items ++ filter_map (dir_in l.path) (children_seen l.entries)
