use Rattle.http_model.proofs.Sessions.{requests_unique}
use Rattle.http_model.proofs.laws.bytes_decide_the_session.Goals as goal

pub returns : goal.returns
returns c = requests_unique
