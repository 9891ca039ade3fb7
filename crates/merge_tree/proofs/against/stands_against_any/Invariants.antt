use Rattle.std.proofs.Common.{◌≡◌, drop}
use Rattle.std.specs.List.{list_any}
use Rattle.history_model.specs.Merge as merge
use Rattle.merge_tree.specs.View.{flat_view, flats_view}
use Rattle.merge_tree.proofs.against.stands_against_any.Given as goal

-- what is left tells the answer
abbrev pub invariant-loop-other : goal.invariant-loop-other
invariant-loop-other l = list_any (merge.stands_against l.change (flat_view l.file)) (flats_view (drop l.other-index l.others)) ≡ list_any (merge.stands_against l.change (flat_view l.file)) (flats_view l.others)
