use Rattle.http_model.proofs.Sessions.{takes_none, takes_more, takes_skipped, takes_one}
use Rattle.http_model.proofs.laws.requests_are_taken_one_by_one.Goals as goal

pub returns-clause-none : goal.returns-clause-none
returns-clause-none c = takes_none

pub returns-clause-more : goal.returns-clause-more
returns-clause-more c = takes_more

pub returns-clause-skipped : goal.returns-clause-skipped
returns-clause-skipped c = takes_skipped

pub returns-clause-one : goal.returns-clause-one
returns-clause-one c = takes_one
