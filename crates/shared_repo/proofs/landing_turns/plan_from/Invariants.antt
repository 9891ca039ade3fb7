use Rattle.shared_repo.proofs.landing_turns.plan_from.Given as goal

abbrev pub ghosts-plan_again_in : goal.ghosts-plan_again_in
ghosts-plan_again_in g a = record { name = a.blank.name; parts = a.blank.parts }
