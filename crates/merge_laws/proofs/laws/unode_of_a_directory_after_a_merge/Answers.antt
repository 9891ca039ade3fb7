use Rattle.merge_laws.proofs.UnodeEntries.{dir_made, dir_of_first, dir_of_second}
use Rattle.merge_laws.proofs.laws.unode_of_a_directory_after_a_merge.Goals as goal

pub returns-clause-made : goal.returns-clause-made
returns-clause-made c = λ k first second d all dir. dir_made k first second all d dir

pub returns-clause-first : goal.returns-clause-first
returns-clause-first c = λ k first second d all dir. dir_of_first k first second all d dir

pub returns-clause-second : goal.returns-clause-second
returns-clause-second c = λ k first second d all dir. dir_of_second k first second all d dir
