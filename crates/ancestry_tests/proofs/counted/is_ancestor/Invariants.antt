use Rattle.ancestry_tests.proofs.counted.is_ancestor.Given as goal

abbrev pub ghosts-is_ancestor_on : goal.ghosts-is_ancestor_on
ghosts-is_ancestor_on a = record { name = a.blank.name; parts = a.blank.parts }
