use Rattle.opening_laws.proofs.Denials.{landing_denied, move_denied, policy_denied}
use Rattle.opening_laws.proofs.laws.denials_name_the_least_path.Goals as goal

pub returns-clause-landings : goal.returns-clause-landings
returns-clause-landings c = landing_denied

pub returns-clause-moves : goal.returns-clause-moves
returns-clause-moves c = move_denied

pub returns-clause-policies : goal.returns-clause-policies
returns-clause-policies c = policy_denied
