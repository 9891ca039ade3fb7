use Rattle.merge_laws.proofs.UnodeEntries.{file_made, file_of_first, file_of_second}
use Rattle.merge_laws.proofs.laws.unode_of_a_file_after_a_merge.Goals as goal

pub returns-clause-made : goal.returns-clause-made
returns-clause-made c = file_made

pub returns-clause-first : goal.returns-clause-first
returns-clause-first c = file_of_first

pub returns-clause-second : goal.returns-clause-second
returns-clause-second c = file_of_second
