use Rattle.std.proofs.Common.{ap, ◌∙◌}
use Rattle.std.proofs.lemmas.Result.{IfOk-weaker}
use Rattle.history_model.specs.Tree.{file_at}
use Rattle.bonsai.proofs.Rules.{changes_rise}
use Rattle.tree_fold.specs.Fold.{file_in}
use Rattle.tree_fold.proofs.Trees.{file_at-map}
use Rattle.merge_tree.specs.View.{flats_view}
use Rattle.merge_tree.specs.Placed.{set_all, left_all}
use Rattle.merge_tree.proofs.Placing.{both_sides, empty_file}
use Rattle.merge_tree.proofs.merged.merged.Goals as goal

pub returns-clause-files : goal.returns-clause-files
returns-clause-files c = IfOk-weaker c.listed.result _ _ (λ flat is p.
    let k = c.args.change.now in
    let first = flats_view c.args.first.now in
    let second = flats_view c.args.second.now in
    ap (λ fs. file_at fs p) is
    ∙ file_at-map c.place_left-2.new.files p
    ∙ c.in_ok-place_left-2.ensures p
    ∙ ap (left_all k second p) (c.in_ok-place_left.ensures p)
    ∙ ap (λ o. left_all k second p (left_all k first p o)) (c.in_ok-place_sets.ensures p ∙ ap (λ es. set_all es p (file_in c.new-files.result p)) c.edits.ensures.edits ∙ ap (set_all k.changes p) (empty_file c.new-files.result p c.new-files.ensures.empty))
    ∙ both_sides k first second p (changes_rise k c.edits.ensures.rules)) c.listed.ensures.files
