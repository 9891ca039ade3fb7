use Rattle.std.proofs.Common.{take}
use Rattle.std.specs.Prelude.{option_map}
use Rattle.land_policy.specs.Index.{IsFirsts}
use Rattle.land_policy.specs.View.{rules_view}
use Rattle.land_policy.proofs.firsts.firsts_of.Given as goal

-- the rules so far
abbrev pub invariant-loop-number : goal.invariant-loop-number
invariant-loop-number l = IsFirsts (rules_view (take l.number l.rules)) (option_map (λ n. n.now) l.caller) l.firsts
