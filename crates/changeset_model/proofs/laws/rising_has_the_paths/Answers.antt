use Rattle.changeset_model.proofs.Rising.{IsRising-rising, Contains-rising}
use Rattle.changeset_model.proofs.laws.rising_has_the_paths.Goals as goal

pub returns-clause-order : goal.returns-clause-order
returns-clause-order c = IsRising-rising

pub returns-clause-members : goal.returns-clause-members
returns-clause-members c = Contains-rising
