use Rattle.std.proofs.Common.{ℕ, List, subst}
use Rattle.page_reader.specs.Pages.{IsNoPage, IsPage}
use Rattle.repo_calls.specs.Calls.{lines_seen}
use Rattle.follower.proofs.PagesHeard.{no_page_told}
use Rattle.follower.proofs.reading.page_in.Goals as goal

pub returns-in-Ok : goal.returns-in-Ok
returns-in-Ok c = subst (λ (text : List ℕ). IsPage c.args.from text (lines_seen c.in-Ok.page.entries.items) c.in-Ok.page.total) c.as_slice.ensures.value c.in-Ok.ensures.page

pub returns-in-Err : goal.returns-in-Err
returns-in-Err c =
    rw c.heard_instead.ensures (no_page_told c.args.from c.args.received.now.body.items c.in-Err.fault (λ other. subst (λ (text : List ℕ). IsNoPage c.args.from text) c.as_slice.ensures.value (c.in-Err.ensures.no_page other)))
