use Rattle.std.proofs.Common.{◌∙◌, sym, subst}
use Rattle.command_line.specs.Outside.{outside, told}
use Rattle.command_line.specs.Running.{OpensBoth, Writes}
use Rattle.command_line.proofs.Migrating.{runs_migrate}
use Rattle.command_line.proofs.migrate.run_migrate.Goals as goal

pub returns-clause-runs : goal.returns-clause-runs
returns-clause-runs g c =
    let outside_of = outside g.O.Opener.shelf g.O.Opener.faults g.L.Link.rest g.L.Link.written g.L.Link.faults in
    let told_of = told g.L.Link.rest g.L.Link.written g.L.Link.faults in
    runs_migrate g.D.Disk.meaning c.args.source.now c.args.target.now (outside_of c.args.opener.now c.args.link.now) (outside_of c.migrate_file-report.new.opener c.tell.new.link) c.migrate_file-report.result
    (record { status = c.beside.result.status; disk = c.beside.result.disk }) c.beside.result.other (c.beside.ensures.disk ∙ c.tell.ensures.disk) c.beside.ensures.other
    (subst (λ s. Writes c.migrate_file-report.result.report s (told_of c.args.link.now) (told_of c.tell.new.link)) (sym c.beside.ensures.status) c.tell.ensures.writes) c.migrate_file-report.ensures.migrates

pub returns-clause-only : goal.returns-clause-only
returns-clause-only g c =
    let outside_of = outside g.O.Opener.shelf g.O.Opener.faults g.L.Link.rest g.L.Link.written g.L.Link.faults in
    let made = c.migrate_file-report in
    let old = outside_of c.args.opener.now c.args.link.now in
    let new = outside_of made.new.opener c.tell.new.link in
    let source = c.args.source.now in
    let target = c.args.target.now in
    subst (λ o. OpensBoth source target old new c.beside.result.disk o) (sym c.beside.ensures.other)
    (subst (λ o. OpensBoth source target old new o made.result.other) (sym (c.beside.ensures.disk ∙ c.tell.ensures.disk)) (record { shelf = made.ensures.left; unopened = made.ensures.faults }))
