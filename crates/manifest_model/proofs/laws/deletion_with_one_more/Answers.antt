use Rattle.manifest_model.proofs.Deletions.{none_where_there, gone_by_it, gone_before, deletions_go_on}
use Rattle.manifest_model.proofs.laws.deletion_with_one_more.Goals as goal

pub returns-clause-there : goal.returns-clause-there
returns-clause-there c = none_where_there

pub returns-clause-gone : goal.returns-clause-gone
returns-clause-gone c = gone_by_it

pub returns-clause-before : goal.returns-clause-before
returns-clause-before c = gone_before

pub returns-clause-all : goal.returns-clause-all
returns-clause-all c = deletions_go_on
