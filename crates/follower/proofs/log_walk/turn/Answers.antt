use Rattle.std.proofs.Common.{ℕ, List, ap, sym, ◌∙◌, subst, arith}
use Rattle.std.specs.Prelude.{Err, vec_len}
use Rattle.reply_model.specs.Log.{LogLine}
use Rattle.repo_calls.specs.Calls.{lines_seen}
use Rattle.repo_calls.specs.declared.log.LogEntry.{LogEntry}
use Rattle.follower.specs.Receiving.{IsAhead}
use Rattle.follower.specs.Hearing.{IsPageHeard}
use Rattle.follower.proofs.Causes.{heard_disk, heard_link, heard_old, page_disk, page_link, page_old, rose_from, some_is}
use Rattle.follower.proofs.Single.{no_lines, some_lines}
use Rattle.follower.proofs.Stepping.{empty_page, page_goes, unheard_page}
use Rattle.follower.proofs.log_walk.turn.Goals as goal

pub returns-in-Ok-clause-goes : goal.returns-in-Ok-clause-goes
returns-in-Ok-clause-goes g c =
    let own = g.R.OwnRepository in
    let most = c.entries-number.ensures.most in
    let is = c.entries-number.ensures.length in
    let page = c.in-Ok.page in
    let none = no_lines page.entries.items (vec_len page.entries) (sym page.entries.ok.0) (sym c.is_empty.ensures ∙ c.if-is_empty.true) in
    rw c.page_end.ensures (empty_page (own.opening c.args.own.now) (own.history c.args.own.now) c.args.inbox.now.held.items c.ask_page.new.inbox.held.items (g.L.Link.rest c.args.link.now) (g.L.Link.rest c.ask_page.new.link) (own.sealed c.args.own.now) c.entries-number.result page.total
    is (λ bytes ahead. subst (λ (lines : List LogLine). IsPageHeard c.entries-number.result bytes lines page.total c.ask_page.new.inbox.held.items (g.L.Link.rest c.ask_page.new.link)) none (c.in-Ok.ensures.told bytes ahead)) (omega arith))

pub returns-in-Ok-2-clause-goes : goal.returns-in-Ok-2-clause-goes
returns-in-Ok-2-clause-goes g c =
    let own = g.R.OwnRepository in
    let page = c.in-Ok.page in
    let lines = lines_seen c.as_slice.result.now in
    let held = c.ask_page.new.inbox.held.items in
    let rest = g.L.Link.rest c.ask_page.new.link in
    let told = λ (bytes : List ℕ) (ahead : IsAhead c.args.inbox.now.held.items (g.L.Link.rest c.args.link.now) bytes).
    subst (λ (n : ℕ). IsPageHeard n bytes lines page.total held rest) c.entries-number.ensures.length
    (subst (λ (es : List LogEntry). IsPageHeard c.entries-number.result bytes (lines_seen es) page.total held rest) (sym c.as_slice.ensures.value) (c.in-Ok.ensures.told bytes ahead)) in
    page_goes (own.opening c.args.own.now) (own.history c.args.own.now) (own.sealed c.args.own.now) lines page.total c.args.inbox.now.held.items held c.follow_page.new.inbox.held.items (g.L.Link.rest c.args.link.now) rest (g.L.Link.rest c.follow_page.new.link) (own.history c.follow_page.new.own) (own.sealed c.follow_page.new.own) c.follow_page.result
    told (some_lines c.as_slice.result.now (vec_len page.entries) c.as_slice.ensures.len (sym c.is_empty.ensures ∙ c.if-is_empty.false)) c.follow_page.ensures.goes

pub returns-in-Err-clause-goes : goal.returns-in-Err-clause-goes
returns-in-Err-clause-goes g c =
    let own = g.R.OwnRepository in
    let most = c.entries-number.ensures.most in
    let is = c.entries-number.ensures.length in
    rw c.heard_end.ensures (unheard_page (own.opening c.args.own.now) (own.history c.args.own.now) c.args.inbox.now.held.items c.ask_page.new.inbox.held.items (g.L.Link.rest c.args.link.now) (g.L.Link.rest c.ask_page.new.link) (own.sealed c.args.own.now) c.entries-number.result c.in-Err.fault
    is c.in-Err.ensures.told (omega arith))

pub returns-in-Err-clause-link_cause : goal.returns-in-Err-clause-link_cause
returns-in-Err-clause-link_cause g c = λ is. c.in-Err.ensures.cause (ap Err (heard_link c.entries-number.result c.in-Err.fault (rw c.heard_end.ensures at (some_is is))))

pub returns-in-Err-clause-disk_cause : goal.returns-in-Err-clause-disk_cause
returns-in-Err-clause-disk_cause g c = λ is. absurd (heard_disk c.entries-number.result c.in-Err.fault (rw c.heard_end.ensures at (some_is is)))

pub returns-in-Err-clause-version : goal.returns-in-Err-clause-version
returns-in-Err-clause-version g c = λ is. heard_old c.entries-number.result c.in-Err.fault (rw c.heard_end.ensures at (some_is is))

pub returns-in-Ok-clause-link_cause : goal.returns-in-Ok-clause-link_cause
returns-in-Ok-clause-link_cause g c = λ is. absurd (page_link c.entries-number.result c.in-Ok.page.total (rw c.page_end.ensures at (some_is is)))

pub returns-in-Ok-clause-disk_cause : goal.returns-in-Ok-clause-disk_cause
returns-in-Ok-clause-disk_cause g c = λ is. absurd (page_disk c.entries-number.result c.in-Ok.page.total (rw c.page_end.ensures at (some_is is)))

pub returns-in-Ok-clause-version : goal.returns-in-Ok-clause-version
returns-in-Ok-clause-version g c = λ is. page_old c.entries-number.result c.in-Ok.page.total (rw c.page_end.ensures at (some_is is))

pub returns-in-Ok-2-clause-link_cause : goal.returns-in-Ok-2-clause-link_cause
returns-in-Ok-2-clause-link_cause g c = λ is.
    rose_from (g.L.Link.faults c.args.link.now) (g.L.Link.faults c.ask_page.new.link) (g.L.Link.faults c.follow_page.new.link) c.ask_page.ensures.faults (c.follow_page.ensures.link_cause is)

pub returns-in-Ok-2-clause-disk_cause : goal.returns-in-Ok-2-clause-disk_cause
returns-in-Ok-2-clause-disk_cause g c = λ is. c.follow_page.ensures.disk_cause is
