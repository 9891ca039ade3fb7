use Rattle.std.proofs.Common.{◌≡◌, true, ◌||◌, length}
use Rattle.std.specs.BTreeSet.{contains}
use Rattle.changeset_model.specs.Path.{Path, path_cmp, elements, is_prefix, is_path}
use Rattle.derive_step.proofs.Above.{between}
use Rattle.derive_step.proofs.touched.add_above.Given as goal

-- the directories above the path that aren't above the text are there
abbrev pub invariant-loop-above : goal.invariant-loop-above
invariant-loop-above l = record {
  path : is_path (elements l.text) ≡ true;
  front : is_prefix (elements l.text) (elements l.path) ≡ true;
  added : (d : Path) → contains path_cmp l.dirs d ≡ (contains path_cmp l.fn.dirs d || between (elements l.text) (elements l.path) d);
}

abbrev pub decreases-loop-above : goal.decreases-loop-above
decreases-loop-above l = length (elements l.text)
