use Rattle.std.proofs.Common.{◌≤◌, true, false, length, ap, ◌∙◌, arith}
use Rattle.blob_disk.proofs.Clients.{kept_then}
use Rattle.repo_journal.proofs.Seals.{sync_settles}
use Rattle.migration.specs.Copying.{IsShort}
use Rattle.migration.proofs.Calls.{laid, synced}
use Rattle.migration.proofs.copying.begin.Goals as goal

pub returns-in_err-write_at-clause-crash : goal.returns-in_err-write_at-clause-crash
returns-in_err-write_at-clause-crash g c = λ honest empty.
    (let small : length c.unmarked.result ≤ 16 = (let len = ap (λ xs. length xs) c.unmarked.ensures in omega arith) in
    laid (g.E.Disk.meaning c.args.to.now) (g.E.Disk.meaning c.write_at.new.self) c.unmarked.result false honest empty small c.in_err-write_at.ensures.did c.in_err-write_at.ensures.time)

pub returns-in_err-sync-clause-crash : goal.returns-in_err-sync-clause-crash
returns-in_err-sync-clause-crash g c = λ honest empty.
    (let m = g.E.Disk.meaning c.args.to.now in
    let a = g.E.Disk.meaning c.write_at.new.self in
    let small : length c.unmarked.result ≤ 16 = (let len = ap (λ xs. length xs) c.unmarked.ensures in omega arith) in
    let before = laid m a c.unmarked.result true honest empty small c.in_ok-write_at.ensures.did c.in_ok-write_at.ensures.time in
    synced IsShort m a (g.E.Disk.meaning c.sync.new.self) false before c.in_ok-write_at.ensures.kept (g.met.E.Disk.sound c.write_at.new.self) (c.in_ok-write_at.ensures.kept.honest ∙ honest) c.in_err-sync.ensures.did c.in_err-sync.ensures.time)

pub returns-in_err-sync-clause-kept : goal.returns-in_err-sync-clause-kept
returns-in_err-sync-clause-kept g c = kept_then _ (g.E.Disk.meaning c.write_at.new.self) _ c.in_ok-write_at.ensures.kept c.in_err-sync.ensures.kept

pub returns-clause-settled : goal.returns-clause-settled
returns-clause-settled g c = λ honest. sync_settles (g.E.Disk.meaning c.write_at.new.self) (g.E.Disk.meaning c.sync.new.self) (c.in_ok-write_at.ensures.kept.honest ∙ honest) c.in_ok-sync.ensures.did

pub returns-clause-crash : goal.returns-clause-crash
returns-clause-crash g c = λ honest empty.
    (let m = g.E.Disk.meaning c.args.to.now in
    let a = g.E.Disk.meaning c.write_at.new.self in
    let small : length c.unmarked.result ≤ 16 = (let len = ap (λ xs. length xs) c.unmarked.ensures in omega arith) in
    let before = laid m a c.unmarked.result true honest empty small c.in_ok-write_at.ensures.did c.in_ok-write_at.ensures.time in
    synced IsShort m a (g.E.Disk.meaning c.sync.new.self) true before c.in_ok-write_at.ensures.kept (g.met.E.Disk.sound c.write_at.new.self) (c.in_ok-write_at.ensures.kept.honest ∙ honest) c.in_ok-sync.ensures.did c.in_ok-sync.ensures.time)

pub returns-clause-kept : goal.returns-clause-kept
returns-clause-kept g c = kept_then _ (g.E.Disk.meaning c.write_at.new.self) _ c.in_ok-write_at.ensures.kept c.in_ok-sync.ensures.kept
