use Rattle.std.proofs.Common.{inr, ap}
use Rattle.std.specs.Prelude.{is_none, is_some}
use Rattle.command_line.proofs.Migrating.{copies_source}
use Rattle.command_line.proofs.Shelves.{counts_both, opens_both, refused_from}
use Rattle.command_line.proofs.migrate.migrate_file.Goals as goal

pub returns-in-Ok-clause-migrates : goal.returns-in-Ok-clause-migrates
returns-in-Ok-clause-migrates g c =
    inr (copies_source g.D.Disk.meaning c.args.source.now c.args.target.now (g.O.Opener.shelf c.args.opener.now) (g.O.Opener.shelf c.open_file.new.opener) (g.O.Opener.faults c.args.opener.now) (g.O.Opener.faults c.open_file.new.opener) (g.O.Opener.faults c.migrate_opened.new.opener) c.migrate_opened.result
    c.in-Ok.opened.machine.header c.in-Ok.opened.machine.history c.in-Ok.opened.journal c.in-Ok.opened.disk c.in-Ok.ensures.opens c.in-Ok.ensures.left c.in-Ok.ensures.faults.grows c.migrate_opened.ensures.copies)

pub returns-in-Ok-clause-left : goal.returns-in-Ok-clause-left
returns-in-Ok-clause-left g c =
    let done = c.migrate_opened in
    opens_both c.args.source.now c.args.target.now done.result.disk done.result.other (g.O.Opener.shelf c.args.opener.now) (g.O.Opener.shelf c.open_file.new.opener) (g.O.Opener.shelf done.new.opener)
    (ap is_some done.ensures.copies.source_is) c.in-Ok.ensures.left done.ensures.left

pub returns-in-Ok-clause-faults : goal.returns-in-Ok-clause-faults
returns-in-Ok-clause-faults g c =
    let done = c.migrate_opened in
    counts_both done.result.other (g.O.Opener.faults c.args.opener.now) (g.O.Opener.faults c.open_file.new.opener) (g.O.Opener.faults done.new.opener) (is_none done.result.disk)
    (ap is_some done.ensures.copies.source_is) c.in-Ok.ensures.faults done.ensures.faults

pub returns-in-Err-clause-left : goal.returns-in-Err-clause-left
returns-in-Err-clause-left g c =
    refused_from c.args.source.now c.in-Err.outcome.disk (g.O.Opener.shelf c.args.opener.now) (g.O.Opener.shelf c.open_file.new.opener) c.in-Err.ensures.left
