use Rattle.std.proofs.Common.{◌≡◌, drop}
use Rattle.history_model.specs.Merge as merge
use Rattle.merge_tree.specs.View.{flats_view}
use Rattle.merge_tree.proofs.Steps.{first_that}
use Rattle.merge_tree.proofs.against.first_unresolved.Given as goal

-- what is left tells the answer
abbrev pub invariant-loop-file : goal.invariant-loop-file
invariant-loop-file l = first_that (merge.is_unresolved l.change (flats_view l.others)) (flats_view (drop l.file-index l.files)) ≡ first_that (merge.is_unresolved l.change (flats_view l.others)) (flats_view l.files)
