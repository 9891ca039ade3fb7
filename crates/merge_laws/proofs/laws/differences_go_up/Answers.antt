use Rattle.merge_laws.proofs.Differences.{files_up, dirs_up}
use Rattle.merge_laws.proofs.laws.differences_go_up.Goals as goal

pub returns-clause-files : goal.returns-clause-files
returns-clause-files c = λ k first second d name all apart. files_up k first second all apart d name

pub returns-clause-directories : goal.returns-clause-directories
returns-clause-directories c = λ k first second d name all apart. dirs_up k first second all apart d name
