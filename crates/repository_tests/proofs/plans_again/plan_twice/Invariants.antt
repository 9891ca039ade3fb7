use Rattle.repository_tests.proofs.plans_again.plan_twice.Given as goal

abbrev pub ghosts-plan_again : goal.ghosts-plan_again
ghosts-plan_again a = record { name = a.blank.name; parts = a.blank.parts }
