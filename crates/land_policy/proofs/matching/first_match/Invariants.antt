use Rattle.std.proofs.Common.{ℕ, List, None, take}
use Rattle.policy_model.specs.Rules.{Rule}
use Rattle.land_policy.specs.Index.{IsFirsts, IsOwn}
use Rattle.land_policy.proofs.Walk.{Walked}
use Rattle.land_policy.proofs.matching.first_match.Given as goal

-- the rule that decides above the element that the text so far ends with
abbrev pub invariant-loop-end : goal.invariant-loop-end
invariant-loop-end l = (rules : List Rule) (name : List ℕ) → IsFirsts rules None l.everyone → IsOwn rules name l.own → Walked rules name (take l.end l.place) l.first
