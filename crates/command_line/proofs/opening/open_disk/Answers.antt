use Rattle.std.proofs.Common.{subst, sym}
use Rattle.command_line.specs.Opening.{Refuses}
use Rattle.command_line.proofs.Refusing.{refuses}
use Rattle.command_line.proofs.opening.open_disk.Goals as goal

pub returns-in-Err-clause-refuses : goal.returns-in-Err-clause-refuses
returns-in-Err-clause-refuses g c =
    let old = g.D.Disk.meaning c.args.disk.now in
    let new = g.D.Disk.meaning c.open.new.disk in
    subst (Refuses old new) (sym c.report_of.ensures)
    (refuses old new c.in-Err.fault
    (record { within = c.in-Err.ensures.reads; crash = c.in-Err.ensures.crash; kept = c.in-Err.ensures.kept; grows = c.in-Err.ensures.faults.grows })
    c.in-Err.ensures.refused c.in-Err.ensures.never_damaged c.in-Err.ensures.faults c.in-Err.ensures.quiet)
