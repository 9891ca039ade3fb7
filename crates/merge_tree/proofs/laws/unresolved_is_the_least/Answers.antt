use Rattle.merge_tree.proofs.Found.{told_is_unresolved, told_is_least, none_is_unresolved}
use Rattle.merge_tree.proofs.laws.unresolved_is_the_least.Goals as goal

pub returns-clause-found : goal.returns-clause-found
returns-clause-found c = told_is_unresolved

pub returns-clause-least : goal.returns-clause-least
returns-clause-least c = told_is_least

pub returns-clause-none : goal.returns-clause-none
returns-clause-none c = none_is_unresolved
