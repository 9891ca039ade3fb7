use Rattle.changeset_model.specs.Path.{path_cmp}
use Rattle.std.specs.BTreeMap.{get}
use Rattle.std.proofs.Common.{None, sym, ap, ◌∷◌, drop, ◌+◌, ◌∙◌}
use Rattle.std.proofs.lemmas.List.{drop_more}
use Rattle.tree_fold.proofs.Files.{get-updates}
use Rattle.tree_fold.proofs.Steps.{taken-more}
use Rattle.tree_fold.proofs.placed.take_back.Goals as goal

pub loop-placing-preserved : goal.loop-placing-preserved
loop-placing-preserved c =
    let i = c.loop-placing.placing-index in
    let n = c.placing-item.result in
    let ns = c.args.placings.now in
    let later = drop (i + 1) ns in
    record {
      taken = λ p. taken-more n later (drop i ns) p (get path_cmp c.loop-placing.files p) (get path_cmp c.remove.new.self p) _ (drop_more ns i n c.loop-placing-test.true ∙ ap (λ n. n ∷ later) (sym c.placing-item.is)) (get-updates c.loop-placing.files c.remove.new.self n.now None c.remove.ensures.updates p) (c.loop-placing.invariant.taken p);
      ordered = c.remove.ensures.ordered;
    }
