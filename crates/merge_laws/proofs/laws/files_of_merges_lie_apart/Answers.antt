use Rattle.merge_laws.proofs.Trees.{flat, no_file_at}
use Rattle.merge_laws.proofs.laws.files_of_merges_lie_apart.Goals as goal

pub returns-clause-flat : goal.returns-clause-flat
returns-clause-flat c = flat

pub returns-clause-directories : goal.returns-clause-directories
returns-clause-directories c = no_file_at
