use Rattle.migration.proofs.Copies.{copy_stands, stays_legal}
use Rattle.migration.proofs.laws.a_copy_stands_for_the_same_history.Goals as goal

pub returns-clause-stands : goal.returns-clause-stands
returns-clause-stands c = copy_stands

pub returns-clause-legal : goal.returns-clause-legal
returns-clause-legal c = λ header h legal. stays_legal header.capacity header.version h legal
