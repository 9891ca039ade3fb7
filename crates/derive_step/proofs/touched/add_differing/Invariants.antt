use Rattle.std.proofs.Common.{◌≡◌, not, ◌&&◌, ◌||◌, length}
use Rattle.std.specs.Prelude.{◌==◌}
use Rattle.std.specs.BTreeSet.{contains}
use Rattle.changeset_model.specs.Path.{Path, path_cmp}
use Rattle.derive_step.proofs.Differing.{differs_among}
use Rattle.derive_step.proofs.touched.add_differing.Given as goal

-- what is there, with what is left to put in, is what is to be there
abbrev pub invariant-loop-dir : goal.invariant-loop-dir
invariant-loop-dir l =
    (p : Path) → (contains path_cmp l.dirs p || (not (length p == 0) && differs_among l.second p l.dir-iterator)) ≡ (contains path_cmp l.fn.dirs p || (not (length p == 0) && differs_among l.second p l.first.entries))
