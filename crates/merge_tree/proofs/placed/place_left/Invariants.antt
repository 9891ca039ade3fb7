use Rattle.std.proofs.Common.{◌≡◌, drop}
use Rattle.changeset_model.specs.Path.{Path}
use Rattle.tree_fold.specs.Fold.{file_in}
use Rattle.merge_tree.specs.View.{flats_view}
use Rattle.merge_tree.specs.Placed.{left_all}
use Rattle.merge_tree.proofs.placed.place_left.Given as goal

-- the files that are left make the answer of what is there
abbrev pub invariant-loop-file : goal.invariant-loop-file
invariant-loop-file l = (p : Path) → left_all l.change (flats_view (drop l.file-index l.side)) p (file_in l.files p) ≡ left_all l.change (flats_view l.side) p (file_in l.fn.files p)
