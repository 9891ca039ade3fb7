use Rattle.manifest_laws.proofs.PastUnodes.{file_unode_right, known_dir_right}
use Rattle.manifest_laws.proofs.laws.unodes_of_merges_keep_the_rules.Goals as goal

pub returns-clause-file : goal.returns-clause-file
returns-clause-file c = λ h x p f all small e. file_unode_right h all small x p f e

pub returns-clause-directory : goal.returns-clause-directory
returns-clause-directory c = known_dir_right
