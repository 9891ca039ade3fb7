use Rattle.std.proofs.Common.{◌≡◌, drop}
use Rattle.changeset_model.specs.Path.{Path}
use Rattle.bonsai.specs.View.{edits_view}
use Rattle.tree_fold.specs.Fold.{file_in}
use Rattle.merge_tree.specs.Placed.{set_all}
use Rattle.merge_tree.proofs.placed.place_sets.Given as goal

-- the edits that are left make the answer of what is there
abbrev pub invariant-loop-edit : goal.invariant-loop-edit
invariant-loop-edit l = (p : Path) → set_all (edits_view (drop l.edit-index l.edits)) p (file_in l.files p) ≡ set_all (edits_view l.edits) p (file_in l.fn.files p)
