use Rattle.std.proofs.Common.{◌||◌, ◌&&◌, ap, sym, ◌∙◌}
use Rattle.std.specs.Prelude.{is_some}
use Rattle.std.specs.List.{list_any}
use Rattle.changeset_model.specs.Path.{path_eq}
use Rattle.tree_fold.specs.Fold.{file_in}
use Rattle.tree_fold.proofs.Files.{any-cleared, clears-Set}
use Rattle.tree_fold.proofs.cleared.push_cleared.Goals as goal

pub returns : goal.returns
returns c = λ p.
    let e = c.args.edit.now in
    let m = c.args.files.now in
    let old = c.args.paths.now.items in
    any-cleared m e.path p old c.push_above.new.paths.items c.push_under.new.paths.items (c.in_ok-push_above.ensures p) c.in_ok-push_under.ensures
    ∙ ap (λ b. list_any (λ q. path_eq q p) old || (b && is_some (file_in m p))) (sym (clears-Set e _ _ _ _ c.in_default.is p))
