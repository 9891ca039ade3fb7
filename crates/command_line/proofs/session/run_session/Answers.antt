use Rattle.std.proofs.Common.{ap, refl}
use Rattle.std.specs.Prelude.{is_some}
use mathlib.Core.Logic.{inr}
use Rattle.command_line.specs.Outside.{outside, told}
use Rattle.command_line.proofs.Sessions.{serves_file}
use Rattle.command_line.proofs.Shelves.{opens_it, opens_or_not}
use Rattle.command_line.proofs.Unserved.{session_unserved}
use Rattle.command_line.proofs.session.run_session.Goals as goal

pub returns-in-Ok-clause-runs : goal.returns-in-Ok-clause-runs
returns-in-Ok-clause-runs g c =
    let told_of = told g.L.Link.rest g.L.Link.written g.L.Link.faults in
    inr (inr (serves_file g.D.Disk.meaning (g.C.Clock.tells c.args.clock.now) g.met.D.Disk.sound c.args.file.now (g.O.Opener.shelf c.args.opener.now) (told_of c.args.link.now) (told_of c.serve_file.new.link) c.serve_file.result
    c.in-Ok.opened.machine.header c.in-Ok.opened.machine.history c.in-Ok.opened.journal c.in-Ok.opened.disk c.in-Ok.ensures.opens c.serve_file.ensures))

pub returns-in-Err-clause-runs : goal.returns-in-Err-clause-runs
returns-in-Err-clause-runs g c =
    let outside_of = outside g.O.Opener.shelf g.O.Opener.faults g.L.Link.rest g.L.Link.written g.L.Link.faults in
    session_unserved g.D.Disk.meaning (g.C.Clock.tells c.args.clock.now) c.args.file.now (outside_of c.args.opener.now c.args.link.now) (outside_of c.open_file.new.opener c.args.link.now) c.in-Err.outcome.report c.status.result c.in-Err.outcome.disk
    refl c.status.ensures c.in-Err.ensures.unopened c.in-Err.ensures.refuses

pub returns-in-Ok-clause-only : goal.returns-in-Ok-clause-only
returns-in-Ok-clause-only g c =
    let outside_of = outside g.O.Opener.shelf g.O.Opener.faults g.L.Link.rest g.L.Link.written g.L.Link.faults in
    opens_it c.args.file.now (outside_of c.args.opener.now c.args.link.now) (outside_of c.open_file.new.opener c.serve_file.new.link) c.serve_file.result.disk
    (ap is_some c.serve_file.ensures.disk_is) c.in-Ok.ensures.left c.in-Ok.ensures.faults

pub returns-in-Err-clause-only : goal.returns-in-Err-clause-only
returns-in-Err-clause-only g c =
    let outside_of = outside g.O.Opener.shelf g.O.Opener.faults g.L.Link.rest g.L.Link.written g.L.Link.faults in
    opens_or_not c.args.file.now (outside_of c.args.opener.now c.args.link.now) (outside_of c.open_file.new.opener c.args.link.now) c.in-Err.outcome.disk c.in-Err.outcome.disk
    refl c.in-Err.ensures.left c.in-Err.ensures.faults
