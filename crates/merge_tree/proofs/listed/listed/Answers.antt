use Rattle.std.proofs.Common.{◌≡◌, ap, ◌∙◌, arith}
use Rattle.std.proofs.lemmas.Grind.{common_steps}
use Rattle.std.specs.FinMap.{is_sorted}
use Rattle.changeset_model.specs.Path.{path_cmp}
use Rattle.tree_fold.specs.View.{files_view}
use Rattle.tree_fold.proofs.Trees.{view_sorted}
use Rattle.merge_tree.specs.View.{flats_view}
use Rattle.merge_tree.proofs.Steps.{listed_all}
use Rattle.merge_tree.proofs.listed.listed.Goals as goal

pub invariant_of-result : goal.invariant_of-result
invariant_of-result c =
    let all : flats_view c.loop-path.list.items ≡ files_view c.args.files.entries = listed_all _ _ c.loop-path.files.entries (grind (arith, common_steps)) c.loop-path.invariant in
    ap (is_sorted path_cmp) all ∙ view_sorted c.args.files.entries c.len.ensures.ordered

pub returns-clause-rising : goal.returns-clause-rising
returns-clause-rising c =
    let all : flats_view c.loop-path.list.items ≡ files_view c.args.files.entries = listed_all _ _ c.loop-path.files.entries (grind (arith, common_steps)) c.loop-path.invariant in
    ap (is_sorted path_cmp) all ∙ view_sorted c.args.files.entries c.len.ensures.ordered
