use Rattle.land_policy.proofs.Rulings.{IsSearched}
use Rattle.held_policy.proofs.places.denied_place.Given as goal

-- all paths so far are allowed
abbrev pub invariant-loop-at : goal.invariant-loop-at
invariant-loop-at l = IsSearched l.rules l.caller l.paths l.at
