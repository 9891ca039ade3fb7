use Rattle.std.proofs.Common.{◌≡◌, ◌++◌}
use Rattle.std.specs.BTreeMap.{btree_map_len}
use Rattle.tree_fold.specs.View.{files_view}
use Rattle.merge_tree.specs.View.{flats_view}
use Rattle.merge_tree.proofs.listed.listed.Given as goal

-- what was listed, with what is left, is what is to be listed
abbrev pub invariant-loop-path : goal.invariant-loop-path
invariant-loop-path l = flats_view l.list.items ++ files_view l.files.entries ≡ files_view l.fn.files.entries

abbrev pub decreases-loop-path : goal.decreases-loop-path
decreases-loop-path l = btree_map_len l.files
