use Rattle.migration.specs.Files.{OnlyRead}
use Rattle.migration.proofs.Targets.{copies, still_opened, tells}
use Rattle.migration.proofs.files.migrate_to.Goals as goal

pub returns-clause-opened : goal.returns-clause-opened
returns-clause-opened g c = λ header h opened. (
    let m = g.D.Disk.meaning c.args.from.now in
    let n = g.D.Disk.meaning c.migrate-result.new.from in
    let read : OnlyRead m n = record { looked = c.migrate-result.ensures.looked; kept = c.migrate-result.ensures.from_kept; time = c.migrate-result.ensures.from_time; grows = c.migrate-result.ensures.from_faults.grows } in
    still_opened header h c.args.journal.now m n opened read c.migrate-result.ensures.from_faults.most)

pub returns-clause-copies : goal.returns-clause-copies
returns-clause-copies g c = λ header h opened legal. (
    let m = g.D.Disk.meaning c.args.from.now in
    let n = g.D.Disk.meaning c.migrate-result.new.from in
    let old = g.D.Disk.meaning c.in_ok-disk.disk in
    let new = g.D.Disk.meaning c.migrate-result.new.to in
    let read : OnlyRead m n = record { looked = c.migrate-result.ensures.looked; kept = c.migrate-result.ensures.from_kept; time = c.migrate-result.ensures.from_time; grows = c.migrate-result.ensures.from_faults.grows } in
    record {
      given_disk = c.in_ok-disk.disk;
      gives = c.in_ok-disk.ensures.gives;
      copies = copies header h c.args.journal.now m n old new opened read c.migrate-result.result
          (tells header h c.args.journal.now m n old new opened read c.migrate-result.result (g.met.D.Disk.sound c.args.from.now) legal c.migrate-result.ensures.empty c.migrate-result.ensures.stands c.migrate-result.ensures.long
          c.migrate-result.ensures.exists c.migrate-result.ensures.refused c.migrate-result.ensures.time c.migrate-result.ensures.faults c.migrate-result.ensures.from_faults)
          c.migrate-result.ensures.quiet c.migrate-result.ensures.from_quiet c.migrate-result.ensures.crash c.migrate-result.ensures.kept c.migrate-result.ensures.faults.grows;
    })
