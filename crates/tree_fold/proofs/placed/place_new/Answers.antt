use Rattle.std.proofs.Common.{cond, None, ap, ◌∙◌}
use Rattle.std.proofs.lemmas.Map.Lookups.{btree_map_from_get}
use Rattle.std.specs.BTreeMap.{get}
use Rattle.changeset_model.specs.Path.{path_cmp}
use Rattle.changeset_model.proofs.Paths.{path_cmp_total, path_cmp-IsAntisymmetric}
use Rattle.tree_fold.proofs.Steps.{is_placed, back_again}
use Rattle.tree_fold.proofs.placed.place_new.Goals as goal

pub returns-in-Err-clause-err : goal.returns-in-Err-clause-err
returns-in-Err-clause-err c =
    let ns = c.in_ok-placings.placings.items in
    let old = c.args.files.now in
    let mid = c.place_all.new.files in
    btree_map_from_get path_cmp_total c.take_back.new.files old c.take_back.ensures.ordered c.requires
    (λ p. back_again ns p _ (get path_cmp old p) (get path_cmp mid p) (get path_cmp c.take_back.new.files p) (c.in_ok-placings.ensures p)
    (λ away. c.in-Err.ensures.kept p (ap (is_placed p) c.as_slice.ensures.value ∙ away))
    (c.take_back.ensures.taken p ∙ ap (λ ns. cond (is_placed p ns) None (get path_cmp mid p)) c.as_slice-in-Err.ensures.value))
    path_cmp-IsAntisymmetric
