use Rattle.std.proofs.Common.{◌≡◌, ◌++◌, [], drop}
use Rattle.std.specs.Prelude.{map}
use Rattle.history_model.specs.Past.{Past}
use Rattle.deleted_step.specs.Unfolded.{IsUnfolded, Links}
use Rattle.deleted_step.specs.Steps.{AreHeldAt}
use Rattle.deleted_step.proofs.links.set_links.Given as goal

-- the links that were set, with those that are left, are all
abbrev pub invariant-loop-path : goal.invariant-loop-path
invariant-loop-path g l =
    (first : Past) (ls : Links) → AreHeldAt (g.N.Nodes.contents l.nodes) first l.paths → IsUnfolded first ls [] l.fn.unfolded
    → (done : Links) × (done ++ map (λ p. (p, l.link)) (drop l.path-index l.paths) ≡ ls ++ map (λ p. (p, l.link)) l.paths) × IsUnfolded first done [] l.unfolded
