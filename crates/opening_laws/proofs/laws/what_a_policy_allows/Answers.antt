use Rattle.opening_laws.proofs.Callers.{landing_allowed, move_allowed, policy_allowed, policy_is_read}
use Rattle.opening_laws.proofs.laws.what_a_policy_allows.Goals as goal

pub returns-clause-landings : goal.returns-clause-landings
returns-clause-landings c = landing_allowed

pub returns-clause-moves : goal.returns-clause-moves
returns-clause-moves c = move_allowed

pub returns-clause-policies : goal.returns-clause-policies
returns-clause-policies c = policy_allowed

pub returns-clause-read : goal.returns-clause-read
returns-clause-read c = policy_is_read
