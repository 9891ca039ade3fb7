use Rattle.land_policy.proofs.Rulings.{IsSearched}
use Rattle.land_policy.proofs.rules.Rules.denied.Given as goal

-- all paths so far are allowed
abbrev pub invariant-loop-path : goal.invariant-loop-path
invariant-loop-path l = IsSearched l.self l.caller l.paths l.path-index
