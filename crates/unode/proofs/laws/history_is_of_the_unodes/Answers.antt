use Rattle.unode.proofs.Pasts.{file_line, file_links, file_unodes_few}
use Rattle.unode.proofs.laws.history_is_of_the_unodes.Goals as goal

pub returns-clause-line : goal.returns-clause-line
returns-clause-line c = file_line

pub returns-clause-links : goal.returns-clause-links
returns-clause-links c = file_links

pub returns-clause-few : goal.returns-clause-few
returns-clause-few c = file_unodes_few
