use Rattle.std.proofs.Common.{◌∙◌, ap}
use Rattle.std.specs.Prelude.{is_some}
use Rattle.command_line.specs.Outside.{links, outside, peer}
use Rattle.command_line.proofs.Followed.{runs_follow}
use Rattle.command_line.proofs.Shelves.{opens_it, opens_or_not}
use Rattle.command_line.proofs.follow.run_follow.Goals as goal

pub returns-in-Ok-clause-runs : goal.returns-in-Ok-clause-runs
returns-in-Ok-clause-runs g c =
    let outside_of = outside g.O.Opener.shelf g.O.Opener.faults g.L.Link.rest g.L.Link.written g.L.Link.faults in
    runs_follow g.D.Disk.meaning c.args.file.now
    (outside_of c.args.opener.now c.args.link.now) (outside_of c.open_file.new.opener c.follow_opened.new.link)
    (links g.A.Accept.given g.A.Accept.over g.A.Accept.faults c.args.accept c.follow_opened.result.accept c.follow_opened.result.served)
    (peer g.A.Accept.next_link g.K.Link.rest g.K.Link.written g.K.Link.faults c.args.accept c.follow_opened.result.link)
    (record { status = c.follow_opened.result.status; disk = c.follow_opened.result.disk })
    c.in-Ok.opened.machine.header c.in-Ok.opened.machine.history c.in-Ok.opened.journal c.in-Ok.opened.disk c.in-Ok.ensures.opens c.follow_opened.ensures.runs

pub returns-in-Ok-clause-only : goal.returns-in-Ok-clause-only
returns-in-Ok-clause-only g c =
    let outside_of = outside g.O.Opener.shelf g.O.Opener.faults g.L.Link.rest g.L.Link.written g.L.Link.faults in
    opens_it c.args.file.now (outside_of c.args.opener.now c.args.link.now) (outside_of c.open_file.new.opener c.follow_opened.new.link) c.follow_opened.result.disk
    (ap is_some c.follow_opened.ensures.runs.ends.disk_is) c.in-Ok.ensures.left c.in-Ok.ensures.faults

pub returns-in-Err-clause-only : goal.returns-in-Err-clause-only
returns-in-Err-clause-only g c =
    let outside_of = outside g.O.Opener.shelf g.O.Opener.faults g.L.Link.rest g.L.Link.written g.L.Link.faults in
    opens_or_not c.args.file.now (outside_of c.args.opener.now c.args.link.now) (outside_of c.open_file.new.opener c.tell.new.link) c.in-Err.outcome.disk c.apart.result.disk
    (c.apart.ensures.disk ∙ c.tell.ensures.disk) c.in-Err.ensures.left c.in-Err.ensures.faults
