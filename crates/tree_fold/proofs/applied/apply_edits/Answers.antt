use Rattle.std.proofs.Common.{cond, None, ap, ◌∙◌}
use Rattle.std.specs.Prelude.{option_map}
use Rattle.std.specs.List.{list_any}
use Rattle.changeset_model.specs.Path.{path_eq}
use Rattle.bonsai.specs.View.{edits_view}
use Rattle.tree_fold.specs.Fold.{file_in}
use Rattle.tree_fold.specs.View.{file_view}
use Rattle.tree_fold.proofs.AtOnce.{at_once, flat_after}
use Rattle.tree_fold.proofs.Files.{is_some-file_in}
use Rattle.tree_fold.proofs.applied.apply_edits.Goals as goal

pub returns-clause-decided : goal.returns-clause-decided
returns-clause-decided c = λ p.
    let old = c.args.files.now in
    let placed = c.place_new.new.files in
    let after = c.edit_all.new.files in
    c.remove_all.ensures.removed p
    ∙ ap (λ qs. cond (list_any (λ q. path_eq q p) qs) None (file_in after p)) c.as_slice.ensures.value
    ∙ (λ i. cond (c.in_ok-cleared.ensures p i) None (c.edit_all.ensures.edited p i))
    ∙ at_once (edits_view c.args.edits.now) p (file_in old p) (file_in placed p) c.requires.rising c.requires.apart (λ h. is_some-file_in placed p ∙ c.in_ok-place_new.ensures.placed p h) (λ h. ap (option_map file_view) (c.in_ok-place_new.ensures.kept p h))

pub returns-clause-tree : goal.returns-clause-tree
returns-clause-tree c = record {
  ordered = c.remove_all.ensures.ordered;
  flat = flat_after c.args.files.now c.remove_all.new.files (edits_view c.args.edits.now) c.requires.rising c.requires.apart c.requires.tree.flat (returns-clause-decided c);
}
