use Rattle.std.proofs.Common.{◌++◌, ap, ◌∙◌}
use Rattle.std.specs.Map.{keys_of}
use Rattle.tree_fold.proofs.Ranges.{front, front-after}
use Rattle.tree_fold.proofs.cleared.push_under.Goals as goal

pub loop-present-init : goal.loop-present-init
loop-present-init c =
    let q = c.args.path.now in
    let es = c.args.files.now.entries in
    ap (λ left. c.args.paths.now.items ++ keys_of (front q left)) (c.into_iter-present-iterator.ensures.into_iter_gives ∙ c.range-present-items.ensures.between tt)
    ∙ ap (λ fs. c.args.paths.now.items ++ keys_of fs) (front-after q es c.range-present-items.ensures.ordered)
