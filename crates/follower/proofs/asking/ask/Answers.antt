use Rattle.std.proofs.Common.{ℕ, sym, subst, ◌∙◌}
use mathlib.Core.Bool.{true≢false}
use Rattle.std.specs.Prelude.{Option, List}
use Rattle.std.proofs.lemmas.Result.{err_from_is_err_and}
use Rattle.follower.specs.Receiving.{IsAhead, IsFirst, reply_received}
use Rattle.follower.proofs.Heard.{hears_in_vain, unheard}
use Rattle.follower.proofs.asking.ask.Goals as goal

pub returns-in_err-received-clause-told : goal.returns-in_err-received-clause-told
returns-in_err-received-clause-told g c = λ bytes ahead.
    let p = err_from_is_err_and c.from_residual-in_err-received.result c.from_residual-in_err-received.ensures.1 in
    let here = subst (λ (rest : Option (List ℕ)). IsAhead c.args.inbox.now.held.items rest bytes) (sym c.send.ensures.input) ahead in
    rw (p.1, p.2) (hears_in_vain c.args.wanted.now bytes c.receive.new.inbox.held.items (g.L.Link.rest c.receive.new.link) c.most_bytes.result c.in_err-received.field-0.0 c.most_bytes.ensures.value (c.in_err-received.ensures.told bytes here))

pub returns-else-is_wanted-clause-told : goal.returns-else-is_wanted-clause-told
returns-else-is_wanted-clause-told g c = λ bytes ahead.
    let received = c.in_ok-received.received in
    let here = subst (λ (rest : Option (List ℕ)). IsAhead c.args.inbox.now.held.items rest bytes) (sym c.send.ensures.input) ahead in
    unheard c.args.wanted.now bytes c.receive.new.inbox.held.items (g.L.Link.rest c.receive.new.link) received
    (subst (λ (n : ℕ). IsFirst n bytes (reply_received received) c.receive.new.inbox.held.items (g.L.Link.rest c.receive.new.link)) c.most_bytes.ensures.value (c.in_ok-received.ensures.told bytes here))
    (λ same. true≢false (sym (c.is_wanted.ensures.1 same) ∙ c.if-is_wanted.false))
