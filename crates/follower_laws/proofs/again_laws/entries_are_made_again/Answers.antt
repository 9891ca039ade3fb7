use Rattle.follower_laws.proofs.Answered.{answered_again, made_same}
use Rattle.follower_laws.proofs.again_laws.entries_are_made_again.Goals as goal

pub returns-clause-answered : goal.returns-clause-answered
returns-clause-answered c = λ server own h body line fetched answer made follows told second up fetch a.
    answered_again server own h body line fetched answer made (record { follows = follows; second = second; up = up; fetch = fetch }) told a

pub returns-clause-same : goal.returns-clause-same
returns-clause-same c = λ server own h body found line fetched follows told second up fetch makes.
    made_same server own h body found line fetched (record { follows = follows; second = second; up = up; fetch = fetch }) told makes
