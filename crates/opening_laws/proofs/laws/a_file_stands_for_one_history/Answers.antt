use Rattle.opening_laws.proofs.Opening.{one_header, one_history}
use Rattle.opening_laws.proofs.laws.a_file_stands_for_one_history.Goals as goal

pub returns-clause-header : goal.returns-clause-header
returns-clause-header c = one_header

pub returns-clause-history : goal.returns-clause-history
returns-clause-history c = one_history
