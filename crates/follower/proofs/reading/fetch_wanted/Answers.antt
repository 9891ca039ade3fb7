use Rattle.std.proofs.lemmas.Result.{err_from_is_err_and}
use Rattle.follower.proofs.PagesHeard.{fetch_in_vain}
use Rattle.follower.proofs.reading.fetch_wanted.Goals as goal

pub returns-in_err-received-clause-told : goal.returns-in_err-received-clause-told
returns-in_err-received-clause-told g c = λ bytes ahead.
    let p = err_from_is_err_and c.from_residual.result c.from_residual.ensures.1 in
    rw (p.1, p.2) (fetch_in_vain c.args.wanted.now bytes c.ask.new.inbox.held.items (g.L.Link.rest c.ask.new.link) c.in_err-received.field-0.0 (c.in_err-received.ensures.told bytes ahead))

pub returns-clause-told : goal.returns-clause-told
returns-clause-told g c = λ bytes ahead. c.in_ok-received.ensures.told bytes ahead
