use Rattle.std.proofs.Common.{true, false}
use Rattle.repo_journal.specs.declared.left.At.TheVariants.{Opened}
use Rattle.repo_journal.proofs.Seals.{sync_settles}
use Rattle.repo_journal.proofs.Steps.{seals, sync_leaves}
use Rattle.repo_journal.proofs.seal.end.Goals as goal

pub returns-in-Ok-clause-crash : goal.returns-in-Ok-clause-crash
returns-in-Ok-clause-crash g c = λ size m bytes u honest.
    sync_leaves Opened m (g.D.Disk.meaning c.args.disk.now) (g.D.Disk.meaning c.flushed.new.self) size bytes true u honest
    (g.met.D.Disk.sound c.args.disk.now) c.in-Ok.ensures.did c.in-Ok.ensures.time

pub returns-in-Ok-clause-sealed : goal.returns-in-Ok-clause-sealed
returns-in-Ok-clause-sealed g c = λ size m bytes some u honest image h.
    seals m (g.D.Disk.meaning c.args.disk.now) (g.D.Disk.meaning c.flushed.new.self) size bytes some u honest c.in-Ok.ensures.did image h

pub returns-in-Ok-clause-settled : goal.returns-in-Ok-clause-settled
returns-in-Ok-clause-settled g c = λ honest.
    sync_settles (g.D.Disk.meaning c.args.disk.now) (g.D.Disk.meaning c.flushed.new.self) honest c.in-Ok.ensures.did

pub returns-in-Err-clause-crash : goal.returns-in-Err-clause-crash
returns-in-Err-clause-crash g c = λ size m bytes u honest.
    sync_leaves Opened m (g.D.Disk.meaning c.args.disk.now) (g.D.Disk.meaning c.flushed.new.self) size bytes false u honest
    (g.met.D.Disk.sound c.args.disk.now) c.in-Err.ensures.did c.in-Err.ensures.time
