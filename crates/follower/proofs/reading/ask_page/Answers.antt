use Rattle.std.proofs.lemmas.Result.{err_from_is_err_and}
use Rattle.follower.proofs.PagesHeard.{page_in_vain, page_told}
use Rattle.follower.proofs.reading.ask_page.Goals as goal

pub returns-in_err-received-clause-told : goal.returns-in_err-received-clause-told
returns-in_err-received-clause-told g c = λ bytes ahead.
    let p = err_from_is_err_and c.from_residual.result c.from_residual.ensures.1 in
    rw (p.1, p.2) (page_in_vain c.args.from bytes c.ask.new.inbox.held.items (g.L.Link.rest c.ask.new.link) c.in_err-received.field-0.0 (c.in_err-received.ensures.told bytes ahead))

pub returns-clause-told : goal.returns-clause-told
returns-clause-told g c = λ bytes ahead.
    page_told c.args.from bytes c.in_ok-received.received.body.items c.ask.new.inbox.held.items (g.L.Link.rest c.ask.new.link) c.page_in.result (c.in_ok-received.ensures.told bytes ahead) c.page_in.ensures
