use Rattle.std.proofs.Common.{None, sym, ap, ◌∷◌, drop, ◌+◌, ◌∙◌}
use Rattle.std.proofs.lemmas.List.{drop_more}
use Rattle.tree_fold.specs.Fold.{file_in}
use Rattle.tree_fold.proofs.Files.{file_in-updates, removed-more}
use Rattle.tree_fold.proofs.edited.remove_all.Goals as goal

pub loop-path-preserved : goal.loop-path-preserved
loop-path-preserved c =
    let i = c.loop-path.path-index in
    let q = c.path-item.result in
    let qs = c.args.paths.now in
    let later = drop (i + 1) qs in
    record {
      removed = λ p. removed-more q later (drop i qs) p (file_in c.loop-path.files p) (file_in c.remove.new.self p) _ (drop_more qs i q c.loop-path-test.true ∙ ap (λ q. q ∷ later) (sym c.path-item.is)) (file_in-updates c.loop-path.files c.remove.new.self q None c.remove.ensures.updates p) (c.loop-path.invariant.removed p);
      ordered = c.remove.ensures.ordered;
    }
