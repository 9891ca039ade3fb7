use Rattle.std.proofs.Common.{◌≡◌, cond, None, drop}
use Rattle.std.specs.BTreeMap.{get, IsOrdered}
use Rattle.changeset_model.specs.Path.{Path, path_cmp}
use Rattle.tree_fold.proofs.Steps.{is_placed}
use Rattle.tree_fold.proofs.placed.take_back.Given as goal

-- what is left to take back makes the answer of what is there
abbrev pub invariant-loop-placing : goal.invariant-loop-placing
invariant-loop-placing l = record {
  taken : (p : Path) → cond (is_placed p (drop l.placing-index l.placings)) None (get path_cmp l.files p) ≡ cond (is_placed p l.placings) None (get path_cmp l.fn.files p);
  ordered : IsOrdered path_cmp l.files;
}
