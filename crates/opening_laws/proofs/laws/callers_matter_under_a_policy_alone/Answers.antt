use Rattle.opening_laws.proofs.Callers.{landing_untold, move_untold}
use Rattle.opening_laws.proofs.Whoever.{moves_for_any, lands_for_any}
use Rattle.opening_laws.proofs.laws.callers_matter_under_a_policy_alone.Goals as goal

pub returns-clause-untold_landing : goal.returns-clause-untold_landing
returns-clause-untold_landing c = landing_untold

pub returns-clause-untold_move : goal.returns-clause-untold_move
returns-clause-untold_move c = move_untold

pub returns-clause-moves : goal.returns-clause-moves
returns-clause-moves c = moves_for_any

pub returns-clause-landings : goal.returns-clause-landings
returns-clause-landings c = lands_for_any
