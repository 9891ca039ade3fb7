use Rattle.std.proofs.Common.{◌≡◌, ◌||◌, drop}
use Rattle.std.specs.List.{list_any}
use Rattle.std.specs.BTreeSet.{contains}
use Rattle.changeset_model.specs.Path.{Path, path_cmp}
use Rattle.bonsai.specs.View.{edits_view}
use Rattle.derive_step.specs.Touched.{is_above, IsWhole}
use Rattle.derive_step.proofs.touched.touched_dirs.Given as goal

-- with the directories above the paths that are left, all are there
abbrev pub invariant-loop-edit : goal.invariant-loop-edit
invariant-loop-edit l = record {
  added : (d : Path) → (contains path_cmp l.dirs d || list_any (λ e. is_above d e.0) (edits_view (drop l.edit-index l.edits))) ≡ list_any (λ e. is_above d e.0) (edits_view l.edits);
  whole : IsWhole l.dirs;
}
