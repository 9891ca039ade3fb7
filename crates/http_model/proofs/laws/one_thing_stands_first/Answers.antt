use Rattle.http_model.proofs.Streams.{begins_unique, begins_skipped, begins_before_skip}
use Rattle.http_model.proofs.laws.one_thing_stands_first.Goals as goal

pub returns-clause-unique : goal.returns-clause-unique
returns-clause-unique c = begins_unique

pub returns-clause-skipped : goal.returns-clause-skipped
returns-clause-skipped c = begins_skipped

pub returns-clause-before_skip : goal.returns-clause-before_skip
returns-clause-before_skip c = begins_before_skip
