use Rattle.std.proofs.Common.{ℕ, List, ap, subst, arith}
use Rattle.std.specs.Prelude.{Err}
use Rattle.repo_calls.specs.Calls.{line_seen}
use Rattle.follower.specs.Hearing.{bytes_fetched}
use Rattle.follower.specs.Replaying.{IsReplayed}
use Rattle.follower.proofs.Causes.{some_is, heard_disk, heard_link, heard_old, replayed_disk, replayed_link, replayed_old}
use Rattle.follower.proofs.Stepping.{replayed_entry, unheard_entry}
use Rattle.follower.proofs.log_walk.follow_entry.Goals as goal

pub returns-in-Ok-clause-goes : goal.returns-in-Ok-clause-goes
returns-in-Ok-clause-goes g c =
    let own = g.R.OwnRepository in
    let opening = own.opening c.args.own.now in
    let h = own.history c.args.own.now in
    let after = own.history c.replay-replayed.new.own in
    let sealed = own.sealed c.replay-replayed.new.own in
    rw c.replayed_end.ensures (replayed_entry opening h (own.sealed c.args.own.now) (line_seen c.args.entry.now) c.args.inbox.now.held.items c.fetch.new.inbox.held.items (g.L.Link.rest c.args.link.now) (g.L.Link.rest c.fetch.new.link) after sealed c.entries-number.result (bytes_fetched c.in-Ok.fetched) c.replay-replayed.result
    c.entries-number.ensures.length c.in-Ok.ensures.told (subst (λ (f : List ℕ). IsReplayed opening h (line_seen c.args.entry.now) f after sealed c.replay-replayed.result) c.bytes.ensures c.replay-replayed.ensures.replayed) c.replay-replayed.ensures.sealed)

pub returns-in-Ok-clause-link_cause : goal.returns-in-Ok-clause-link_cause
returns-in-Ok-clause-link_cause g c = λ is. absurd (replayed_link c.entries-number.result c.replay-replayed.result (rw c.replayed_end.ensures at is))

pub returns-in-Ok-clause-disk_cause : goal.returns-in-Ok-clause-disk_cause
returns-in-Ok-clause-disk_cause g c = λ is. c.replay-replayed.ensures.cause (replayed_disk c.entries-number.result c.replay-replayed.result (rw c.replayed_end.ensures at is))

pub returns-in-Ok-clause-version : goal.returns-in-Ok-clause-version
returns-in-Ok-clause-version g c = λ is. replayed_old c.entries-number.result c.replay-replayed.result (rw c.replayed_end.ensures at is)

pub returns-in-Err-clause-goes : goal.returns-in-Err-clause-goes
returns-in-Err-clause-goes g c = λ lines.
    let own = g.R.OwnRepository in
    let most = c.entries-number.ensures.most in
    let is = c.entries-number.ensures.length in
    rw c.heard_end.ensures (unheard_entry (own.opening c.args.own.now) (own.history c.args.own.now) (line_seen c.args.entry.now) c.args.inbox.now.held.items c.fetch.new.inbox.held.items (g.L.Link.rest c.args.link.now) (g.L.Link.rest c.fetch.new.link) (own.sealed c.args.own.now) c.entries-number.result c.in-Err.fault
    is c.in-Err.ensures.told (omega arith) lines)

pub returns-in-Err-clause-link_cause : goal.returns-in-Err-clause-link_cause
returns-in-Err-clause-link_cause g c = λ is. c.in-Err.ensures.cause (ap Err (heard_link c.entries-number.result c.in-Err.fault (rw c.heard_end.ensures at (some_is is))))

pub returns-in-Err-clause-disk_cause : goal.returns-in-Err-clause-disk_cause
returns-in-Err-clause-disk_cause g c = λ is. absurd (heard_disk c.entries-number.result c.in-Err.fault (rw c.heard_end.ensures at (some_is is)))

pub returns-in-Err-clause-version : goal.returns-in-Err-clause-version
returns-in-Err-clause-version g c = λ is. heard_old c.entries-number.result c.in-Err.fault (rw c.heard_end.ensures at (some_is is))
