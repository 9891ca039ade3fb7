use Rattle.std.proofs.Common.{◌≡◌, ◌++◌, ◌∷◌, [], length}
use Rattle.history_model.specs.Past.{Past}
use Rattle.deleted_step.specs.Texts.{left}
use Rattle.deleted_step.specs.Unfolded.{IsUnfolded, Links}
use Rattle.deleted_step.specs.Steps.{AreHeldAt}
use Rattle.deleted_step.proofs.Texts.{own}
use Rattle.deleted_step.proofs.way.unfold_way.Given as goal

-- the directories gone through are unfolded, and the rest of the path goes on from the last
abbrev pub invariant-loop-rest : goal.invariant-loop-rest
invariant-loop-rest g l = record {
  cut : l.path ≡ own l.above ++ left l.rest;
  unfolded : (first : Past) (ls : Links) → AreHeldAt (g.N.Nodes.contents l.nodes) first (l.path ∷ []) → IsUnfolded first ls [] l.fn.unfolded → IsUnfolded first ls (own l.above) l.unfolded;
}

abbrev pub decreases-loop-rest : goal.decreases-loop-rest
decreases-loop-rest g l = length (left l.rest)
