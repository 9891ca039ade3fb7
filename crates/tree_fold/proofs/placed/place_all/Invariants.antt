use Rattle.std.proofs.Common.{◌≡◌, drop}
use Rattle.std.specs.BTreeMap.{get, IsOrdered}
use Rattle.changeset_model.specs.Path.{Path, path_cmp}
use Rattle.tree_fold.proofs.Steps.{placed_in}
use Rattle.tree_fold.proofs.placed.place_all.Given as goal

-- what is left to place makes the answer of what is there
abbrev pub invariant-loop-placing : goal.invariant-loop-placing
invariant-loop-placing l = record {
  placed : (p : Path) → placed_in l.file (drop l.placing-index l.placings) p (get path_cmp l.files p) ≡ placed_in l.file l.placings p (get path_cmp l.fn.files p);
  ordered : IsOrdered path_cmp l.files;
}
