use Rattle.std.specs.BTreeMap.{get}
use Rattle.std.proofs.Common.{◌≡◌, drop}
use Rattle.std.specs.Prelude.{◌||◌, ◌&&◌, is_none}
use Rattle.std.specs.List.{list_any}
use Rattle.changeset_model.specs.Path.{Path, path_cmp, path_eq}
use Rattle.bonsai.specs.View.{edits_view}
use Rattle.tree_fold.specs.Fold.{is_set_of}
use Rattle.tree_fold.proofs.placed.placings_of.Given as goal

-- what was found, with what the edits that are left set, is what is to be found
abbrev pub invariant-loop-edit : goal.invariant-loop-edit
invariant-loop-edit l = (p : Path) → (list_any (λ n. path_eq n.now p) l.placings.items || (list_any (is_set_of p) (edits_view (drop l.edit-index l.edits)) && is_none (get path_cmp l.files p))) ≡ (list_any (is_set_of p) (edits_view l.edits) && is_none (get path_cmp l.files p))
