use Rattle.std.proofs.Common.{◌∙◌, sym, subst}
use mathlib.Core.Logic.{inl}
use Rattle.command_line.specs.declared.status.Status.{Status}
use Rattle.command_line.specs.Outside.{links, outside, told}
use Rattle.command_line.specs.Running.{Writes}
use Rattle.command_line.proofs.Serving.{none_taken, opens_none, runs_serve}
use Rattle.command_line.proofs.Shelves.{opens_it, opens_or_not}
use Rattle.command_line.proofs.serve.run_serve.Goals as goal

pub returns-in-Ok-clause-runs : goal.returns-in-Ok-clause-runs
returns-in-Ok-clause-runs g c =
    let outside_of = outside g.O.Opener.shelf g.O.Opener.faults g.L.Link.rest g.L.Link.written g.L.Link.faults in
    runs_serve g.D.Disk.meaning c.args.file.now c.args.lanes c.args.connections
    (outside_of c.args.opener.now c.args.link.now) (outside_of c.open_file.new.opener c.serve_opened.new.link)
    (links g.A.Accept.given g.A.Accept.over g.A.Accept.faults c.args.accept c.serve_opened.result.accept c.serve_opened.result.served)
    (record { status = c.serve_opened.result.status; disk = c.serve_opened.result.disk })
    c.in-Ok.opened.machine.header c.in-Ok.opened.machine.history c.in-Ok.opened.journal c.in-Ok.opened.disk c.in-Ok.ensures.opens c.serve_opened.ensures.runs

pub returns-in-Err-clause-runs : goal.returns-in-Err-clause-runs
returns-in-Err-clause-runs g c =
    let outside_of = outside g.O.Opener.shelf g.O.Opener.faults g.L.Link.rest g.L.Link.written g.L.Link.faults in
    let told_of = told g.L.Link.rest g.L.Link.written g.L.Link.faults in
    inl (opens_none g.D.Disk.meaning c.args.file.now (outside_of c.args.opener.now c.args.link.now) (outside_of c.open_file.new.opener c.tell.new.link)
    (links g.A.Accept.given g.A.Accept.over g.A.Accept.faults c.args.accept c.apart.result.accept c.apart.result.served) c.in-Err.outcome
    (record { status = c.apart.result.status; disk = c.apart.result.disk })
    (c.apart.ensures.disk ∙ c.tell.ensures.disk)
    (subst (λ (s : Status). Writes c.in-Err.outcome.report s (told_of c.args.link.now) (told_of c.tell.new.link)) (sym c.apart.ensures.status) c.tell.ensures.writes)
    (none_taken g.A.Accept.given g.A.Accept.over g.A.Accept.faults c.args.accept c.apart.result.accept c.apart.result.served c.apart.ensures.accept c.apart.ensures.served)
    c.in-Err.ensures.unopened c.in-Err.ensures.refuses)

pub returns-in-Ok-clause-only : goal.returns-in-Ok-clause-only
returns-in-Ok-clause-only g c =
    let outside_of = outside g.O.Opener.shelf g.O.Opener.faults g.L.Link.rest g.L.Link.written g.L.Link.faults in
    opens_it c.args.file.now (outside_of c.args.opener.now c.args.link.now) (outside_of c.open_file.new.opener c.serve_opened.new.link) c.serve_opened.result.disk
    c.serve_opened.ensures.disk c.in-Ok.ensures.left c.in-Ok.ensures.faults

pub returns-in-Err-clause-only : goal.returns-in-Err-clause-only
returns-in-Err-clause-only g c =
    let outside_of = outside g.O.Opener.shelf g.O.Opener.faults g.L.Link.rest g.L.Link.written g.L.Link.faults in
    opens_or_not c.args.file.now (outside_of c.args.opener.now c.args.link.now) (outside_of c.open_file.new.opener c.tell.new.link) c.in-Err.outcome.disk c.apart.result.disk
    (c.apart.ensures.disk ∙ c.tell.ensures.disk) c.in-Err.ensures.left c.in-Err.ensures.faults
