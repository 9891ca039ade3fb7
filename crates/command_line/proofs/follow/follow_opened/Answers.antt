use Rattle.std.proofs.Common.{sym, subst}
use Rattle.command_line.specs.Followed.{FollowsOn}
use Rattle.command_line.specs.Outside.{links, peer, taken}
use Rattle.command_line.specs.Serving.{IsServed}
use Rattle.command_line.proofs.Followed.{follows_opened}
use Rattle.command_line.proofs.follow.follow_opened.Goals as goal

pub returns-clause-runs : goal.returns-clause-runs
returns-clause-runs g c =
    let machine = c.args.opened.machine in
    let visit = c.follow_by_version-visit in
    let first = c.new-state in
    let links_of = links g.A.Accept.given g.A.Accept.over g.A.Accept.faults c.args.accept visit.new.accept in
    let peer_of = peer g.A.Accept.next_link g.K.Link.rest g.K.Link.written g.K.Link.faults c.args.accept visit.result.link in
    record {
      report = visit.result.report;
      writes = record { reports = c.end_run.ensures.reports; unread = c.end_run.ensures.input };
      ends = follows_opened g.D.Disk.meaning machine.header machine.history c.args.opened.journal (g.D.Disk.meaning c.args.opened.disk) (links_of c.new.result) peer_of visit.result.report c.closed.result first.result visit.new.state
          first.ensures.header first.ensures.history first.ensures.sealed first.ensures.disk first.ensures.opening c.closed.ensures.whole c.closed.ensures.disk
          (subst (λ n. FollowsOn first.result.header.version first.result.opening first.result.history first.result.sealed first.result.disk visit.new.state.disk (links_of n) peer_of visit.result.report) (sym c.new.ensures) visit.ensures.follows);
    }

pub returns-clause-taken : goal.returns-clause-taken
returns-clause-taken g c =
    let visit = c.follow_by_version-visit in
    subst (λ n. IsServed (links g.A.Accept.given g.A.Accept.over g.A.Accept.faults c.args.accept visit.new.accept (taken n visit.result.link))) (sym c.new.ensures) visit.ensures.taken
