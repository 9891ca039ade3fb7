use Rattle.std.proofs.Common.{[], refl, arith}
use Rattle.follower.specs.declared.followed.FollowEnd.TheVariants.{Memory}
use Rattle.follower.proofs.Entries.{still}
use Rattle.follower.proofs.Walked.{ends_here}
use Rattle.follower.proofs.log_walk.follow_own.Goals as goal

pub returns-in-Err-clause-followed : goal.returns-in-Err-clause-followed
returns-in-Err-clause-followed g c =
    let own = g.R.OwnRepository in
    let most = c.entries-entries.ensures.most in
    let is = c.entries-entries.ensures.length in
    let h = own.history c.args.own.now in
    let sealed = own.sealed c.args.own.now in
    ends_here (own.opening c.args.own.now) h sealed [] [] (g.L.Link.rest c.args.link.now) h sealed Memory (still h h sealed refl (omega arith)) refl (λ bytes ahead. (refl, tt))
