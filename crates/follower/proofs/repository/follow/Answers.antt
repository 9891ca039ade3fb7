use Rattle.std.proofs.Common.{[], subst, arith}
use Rattle.bookmark_lock.specs.Opening.{Opening}
use Rattle.repo_state.specs.State.{IsSound, reach}
use Rattle.follower.specs.Left.{open_to}
use Rattle.follower.proofs.Leavings.{has_followed, open_within}
use Rattle.follower.proofs.repository.follow.Goals as goal

pub returns-clause-followed : goal.returns-clause-followed
returns-clause-followed g c =
    let old = c.args.state.now in
    let new = c.end_of-end.new.state in
    let rest = g.L.Link.rest c.args.link.now in
    let is = c.stored_length-stored.ensures.length in
    let most = c.stored_length-stored.ensures.most in
    let begins = c.history_length-length.ensures.sound.begins in
    has_followed old.opening old.history old.sealed rest new.history new.sealed new.left (open_to old.left) new.disk c.end_of-end.result
    c.end_of-end.ensures.followed
    (subst (λ (opening : Opening). IsSound opening new.history new.sealed (reach new) new.disk) c.end_of-end.ensures.opening c.history_length-after.ensures.sound)
    c.history_length-after.ensures.leaves_now.cut_is
    c.end_of-end.ensures.opens
    (open_within old.history old.sealed old.left c.history_length-length.ensures.leaves_now.ends)
    (omega arith)
