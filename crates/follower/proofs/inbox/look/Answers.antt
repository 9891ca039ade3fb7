use Rattle.std.proofs.Common.{ℕ, List, ◌++◌, sym, subst, arith}
use Rattle.follower.specs.Receiving.{IsNowhere}
use Rattle.follower.proofs.Heard.{nowhere_ahead}
use Rattle.follower.proofs.inbox.look.Goals as goal

pub returns-then-branch-eq0-clause-told : goal.returns-then-branch-eq0-clause-told
returns-then-branch-eq0-clause-told g c = λ bytes ahead.
    let told = c.in_ok-read_more-in-Unfinished.ensures.told bytes ahead in
    let none = c.if-branch-eq0.true in
    subst (IsNowhere c.args.limit) (sym (told.1 (omega arith))) (subst (IsNowhere c.args.limit) c.as_slice.ensures.value c.in-Unfinished.ensures.placed.1)

pub returns-in-Bad-clause-told : goal.returns-in-Bad-clause-told
returns-in-Bad-clause-told g c = λ bytes ahead.
    nowhere_ahead c.args.limit c.args.inbox.now.held.items (g.L.Link.rest c.args.link.now) bytes
    (subst (λ bs. (more : List ℕ) → IsNowhere c.args.limit (bs ++ more)) c.as_slice.ensures.value c.in-Bad.ensures.placed) ahead
