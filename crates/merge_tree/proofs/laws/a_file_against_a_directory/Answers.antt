use Rattle.merge_tree.proofs.Above.{stands_above, both_left}
use Rattle.merge_tree.proofs.laws.a_file_against_a_directory.Goals as goal

pub returns-clause-here : goal.returns-clause-here
returns-clause-here c = stands_above

pub returns-clause-under : goal.returns-clause-under
returns-clause-under c = both_left
