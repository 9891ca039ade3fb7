use Rattle.http_model.proofs.Sessions.{few_read}
use Rattle.http_model.proofs.laws.no_more_is_read.Goals as goal

pub returns : goal.returns
returns c = few_read
