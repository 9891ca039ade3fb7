use Rattle.repo_machine.proofs.machine.Machine.plan.Given as goal

abbrev pub ghosts-on_own_count : goal.ghosts-on_own_count
ghosts-on_own_count a = record { name = a.blank.name; parts = a.blank.parts }
