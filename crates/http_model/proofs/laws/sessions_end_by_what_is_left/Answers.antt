use Rattle.http_model.proofs.Sessions.{ends_between, ends_closed, ends_cut, ends_refused, ends_spent}
use Rattle.http_model.proofs.laws.sessions_end_by_what_is_left.Goals as goal

pub returns-clause-ended : goal.returns-clause-ended
returns-clause-ended c = ends_between

pub returns-clause-closed : goal.returns-clause-closed
returns-clause-closed c = ends_closed

pub returns-clause-cut : goal.returns-clause-cut
returns-clause-cut c = ends_cut

pub returns-clause-refused : goal.returns-clause-refused
returns-clause-refused c = ends_refused

pub returns-clause-spent : goal.returns-clause-spent
returns-clause-spent c = ends_spent
