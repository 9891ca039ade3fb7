use Rattle.std.proofs.Common.{◌≡◌, drop}
use Rattle.history_model.specs.Tree.{file_at}
use Rattle.merge_tree.specs.View.{flats_view}
use Rattle.merge_tree.proofs.flat.file_among.Given as goal

-- what is left tells the answer
abbrev pub invariant-loop-file : goal.invariant-loop-file
invariant-loop-file l = file_at (flats_view (drop l.file-index l.files)) l.path ≡ file_at (flats_view l.files) l.path
