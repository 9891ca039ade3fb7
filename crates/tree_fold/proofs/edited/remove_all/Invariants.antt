use Rattle.std.proofs.Common.{◌≡◌, cond, None, drop}
use Rattle.std.specs.List.{list_any}
use Rattle.std.specs.BTreeMap.{IsOrdered}
use Rattle.changeset_model.specs.Path.{Path, path_cmp, path_eq}
use Rattle.tree_fold.specs.Fold.{file_in}
use Rattle.tree_fold.proofs.edited.remove_all.Given as goal

-- the paths that are left make the answer of what is there
abbrev pub invariant-loop-path : goal.invariant-loop-path
invariant-loop-path l = record {
  removed : (p : Path) → cond (list_any (λ q. path_eq q p) (drop l.path-index l.paths)) None (file_in l.files p) ≡ cond (list_any (λ q. path_eq q p) l.paths) None (file_in l.fn.files p);
  ordered : IsOrdered path_cmp l.files;
}
