use Rattle.std.proofs.Common.{◌≡◌, drop}
use Rattle.std.specs.BTreeMap.{IsOrdered}
use Rattle.changeset_model.specs.Path.{Path, path_cmp}
use Rattle.bonsai.specs.View.{edits_view}
use Rattle.tree_fold.specs.Fold.{edited, file_in}
use Rattle.tree_fold.proofs.edited.edit_all.Given as goal

-- the edits that are left make the answer of what is there
abbrev pub invariant-loop-edit : goal.invariant-loop-edit
invariant-loop-edit l = record {
  edited : (p : Path) → edited (edits_view (drop l.edit-index l.edits)) p (file_in l.files p) ≡ edited (edits_view l.edits) p (file_in l.fn.files p);
  ordered : IsOrdered path_cmp l.files;
}
