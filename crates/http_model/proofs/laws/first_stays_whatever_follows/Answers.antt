use Rattle.http_model.proofs.Streams.{whole_stays, refusal_stays}
use Rattle.http_model.proofs.laws.first_stays_whatever_follows.Goals as goal

pub returns-clause-whole : goal.returns-clause-whole
returns-clause-whole c = whole_stays

pub returns-clause-refused : goal.returns-clause-refused
returns-clause-refused c = refusal_stays
