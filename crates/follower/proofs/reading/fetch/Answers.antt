use Rattle.std.proofs.Common.{sym, subst}
use Rattle.std.specs.Prelude.{Option}
use Rattle.repo_calls.specs.Calls.{line_seen}
use Rattle.follower.specs.declared.wanted.Wanted.{Wanted}
use Rattle.follower.specs.Hearing.{HearsFetched}
use Rattle.follower.specs.Wanting.{wanted_of}
use Rattle.follower.proofs.PagesHeard.{fetched_none}
use Rattle.follower.proofs.reading.fetch.Goals as goal

pub returns-in-None-clause-told : goal.returns-in-None-clause-told
returns-in-None-clause-told g c = λ bytes ahead. fetched_none (wanted_of c.args.number (line_seen c.args.entry.now)) bytes c.args.inbox.now.held.items (g.L.Link.rest c.args.link.now) (sym c.in-None.ensures) ahead

pub returns-in-Some-clause-told : goal.returns-in-Some-clause-told
returns-in-Some-clause-told g c = λ bytes ahead.
    subst (λ (wanted : Option Wanted). HearsFetched wanted bytes c.fetch_wanted.new.inbox.held.items (g.L.Link.rest c.fetch_wanted.new.link) c.fetch_wanted.result) c.in-Some.ensures (c.fetch_wanted.ensures.told bytes ahead)
