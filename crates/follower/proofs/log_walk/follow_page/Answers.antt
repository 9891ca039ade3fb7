use Rattle.std.proofs.Common.{◌∙◌, refl, inl, arith}
use Rattle.repo_calls.specs.Calls.{line_seen, lines_seen}
use Rattle.follower.proofs.Causes.{rose_from}
use Rattle.follower.proofs.Stepping.{entry_end, entry_on, grown_on, page_done}
use Rattle.follower.proofs.Walked.{begins}
use Rattle.follower.proofs.log_walk.follow_page.Goals as goal

pub entries-init : goal.entries-init
entries-init g c =
    let own = g.R.OwnRepository in
    record {
      reached = begins (own.opening c.args.own.now) (own.history c.args.own.now) (own.sealed c.args.own.now) (lines_seen c.args.entries.now) c.args.inbox.now.held.items (g.L.Link.rest c.args.link.now);
      grown = inl (refl, refl);
      ready = c.requires.ready;
      opening = refl;
      opens = omega arith;
      link_faults = omega arith;
      disk_faults = omega arith;
    }

pub returns-in-Some-clause-goes : goal.returns-in-Some-clause-goes
returns-in-Some-clause-goes g c =
    let own = g.R.OwnRepository in
    entry_end (own.opening c.args.own.now) (own.history c.args.own.now) (own.history c.entries.own) (own.sealed c.args.own.now) (own.sealed c.entries.own) c.args.entries.now c.entries.entry-index c.entry-item.result c.args.inbox.now.held.items c.entries.inbox.held.items (g.L.Link.rest c.args.link.now) (g.L.Link.rest c.entries.link)
    c.entries-test.true c.entry-item.is c.entries.invariant.reached (own.opening c.entries.own) c.entries.invariant.opening (own.history c.follow_entry.new.own) (own.sealed c.follow_entry.new.own) c.in-Some.end c.in-Some.ensures.goes

pub entries-preserved : goal.entries-preserved
entries-preserved g c =
    let own = g.R.OwnRepository in
    let open0 = c.entries.invariant.opens in
    let open1 = c.follow_entry.ensures.opens in
    let link0 = c.entries.invariant.link_faults in
    let link1 = c.follow_entry.ensures.link_faults in
    let disk0 = c.entries.invariant.disk_faults in
    let disk1 = c.follow_entry.ensures.disk_faults in
    record {
      reached = entry_on (own.opening c.args.own.now) (own.history c.args.own.now) (own.history c.entries.own) (own.sealed c.args.own.now) (own.sealed c.entries.own) c.args.entries.now c.entries.entry-index c.entry-item.result c.args.inbox.now.held.items c.entries.inbox.held.items (g.L.Link.rest c.args.link.now) (g.L.Link.rest c.entries.link)
          c.entries-test.true c.entry-item.is c.entries.invariant.reached (own.opening c.entries.own) c.entries.invariant.opening (own.history c.follow_entry.new.own) (own.sealed c.follow_entry.new.own) c.follow_entry.new.inbox.held.items (g.L.Link.rest c.follow_entry.new.link) c.in-None.ensures.goes;
      grown = grown_on (own.opening c.args.own.now) (own.opening c.entries.own) (own.history c.args.own.now) (own.history c.entries.own) (own.history c.follow_entry.new.own) (line_seen c.entry-item.result) c.entries.inbox.held.items c.follow_entry.new.inbox.held.items (g.L.Link.rest c.entries.link) (g.L.Link.rest c.follow_entry.new.link)
          (own.sealed c.follow_entry.new.own) c.entries.entry-index c.entries.invariant.opening c.entries.invariant.grown c.in-None.ensures.goes;
      ready = c.follow_entry.ensures.ready;
      opening = c.follow_entry.ensures.opening ∙ c.entries.invariant.opening;
      opens = omega arith;
      link_faults = omega arith;
      disk_faults = omega arith;
    }

pub returns-clause-goes : goal.returns-clause-goes
returns-clause-goes g c =
    let own = g.R.OwnRepository in
    let past = c.entries-test.false in
    let within = c.entries.auto.entry-index-end in
    page_done (own.opening c.args.own.now) (own.history c.args.own.now) (own.history c.entries.own) (own.sealed c.args.own.now) c.args.entries.now c.entries.entry-index c.args.inbox.now.held.items c.entries.inbox.held.items (g.L.Link.rest c.args.link.now) (g.L.Link.rest c.entries.link) (own.sealed c.entries.own)
    (omega arith) c.entries.invariant.reached c.entries.invariant.grown

pub returns-in-Some-clause-link_cause : goal.returns-in-Some-clause-link_cause
returns-in-Some-clause-link_cause g c = λ is.
    rose_from (g.L.Link.faults c.args.link.now) (g.L.Link.faults c.entries.link) (g.L.Link.faults c.follow_entry.new.link) c.entries.invariant.link_faults (c.in-Some.ensures.link_cause is)

pub returns-in-Some-clause-disk_cause : goal.returns-in-Some-clause-disk_cause
returns-in-Some-clause-disk_cause g c = λ is.
    rose_from (g.R.OwnRepository.faults c.args.own.now) (g.R.OwnRepository.faults c.entries.own) (g.R.OwnRepository.faults c.follow_entry.new.own) c.entries.invariant.disk_faults (c.in-Some.ensures.disk_cause is)

pub returns-in-Some-clause-version : goal.returns-in-Some-clause-version
returns-in-Some-clause-version g c = λ is. c.in-Some.ensures.version is
