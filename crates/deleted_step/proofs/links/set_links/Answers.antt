use Rattle.std.proofs.Common.{◌≤◌, ◌++◌, ◌∷◌, [], length, subst, arith}
use Rattle.std.proofs.lemmas.Grind.{common_steps}
use Rattle.deleted_step.specs.Unfolded.{IsUnfolded}
use Rattle.deleted_step.proofs.Linked.{all_set, with_next}
use Rattle.deleted_step.proofs.Unfolding.{held_item}
use Rattle.deleted_step.proofs.links.set_links.Goals as goal

pub returns-in-Err-clause-set : goal.returns-in-Err-clause-set
returns-in-Err-clause-set g c = λ first ls held are.
    let inv = c.loop-path.invariant first ls held are in
    c.in-Err.ensures.set first inv.0 (held_item (g.N.Nodes.contents c.args.nodes.now) first c.args.paths.now c.loop-path.path-index c.path-item.result c.loop-path-test.true c.path-item.is held) inv.2

pub loop-path-preserved : goal.loop-path-preserved
loop-path-preserved g c = λ first ls held are.
    let inv = c.loop-path.invariant first ls held are in
    let p = c.path-item.result in
    let x = c.args.link.now in
    (inv.0 ++ (p, x) ∷ [], with_next ls inv.0 x c.args.paths.now c.loop-path.path-index p c.loop-path-test.true c.path-item.is inv.1, c.in_default.ensures.set first inv.0 (held_item (g.N.Nodes.contents c.args.nodes.now) first c.args.paths.now c.loop-path.path-index p c.loop-path-test.true c.path-item.is held) inv.2)

pub returns-clause-set : goal.returns-clause-set
returns-clause-set g c = λ first ls held are.
    let inv = c.loop-path.invariant first ls held are in
    let most : length c.args.paths.now ≤ c.loop-path.path-index = grind (arith, common_steps) in
    subst (λ ls. IsUnfolded first ls [] c.loop-path.unfolded) (all_set ls inv.0 c.args.link.now c.args.paths.now c.loop-path.path-index most inv.1) inv.2
