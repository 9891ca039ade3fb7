use Rattle.ancestry_tests.proofs.counted.nearest.Given as goal

abbrev pub ghosts-nearest_on : goal.ghosts-nearest_on
ghosts-nearest_on a = record { name = a.blank.name; parts = a.blank.parts }
