use Rattle.std.proofs.Common.{◌≡◌, ◌+◌, ◌-◌, true, false, length, sym, subst, arith}
use Rattle.disk_model.specs.Calls.{Kept}
use Rattle.blob_disk.proofs.Clients.{kept_then}
use Rattle.repo_journal.specs.Steps.{Leaves, UnderWay}
use Rattle.repo_journal.specs.declared.left.At.TheVariants.{Laid, Opened}
use Rattle.repo_journal.proofs.Steps.{gate_cut, gate_leaves, gate_opened, sync_leaves}
use Rattle.repo_journal.proofs.seal.open.Goals as goal

pub returns-in_default-clause-crash : goal.returns-in_default-clause-crash
returns-in_default-clause-crash g c = λ m bytes u honest.
    sync_leaves Laid m (g.D.Disk.meaning c.args.disk.now) (g.D.Disk.meaning c.flushed.new.self) c.args.size bytes false u honest
    (g.met.D.Disk.sound c.args.disk.now) c.in_default.ensures.did c.in_default.ensures.time

-- ---- the sync is done

pub returns-in_default-write_at-clause-kept : goal.returns-in_default-write_at-clause-kept
returns-in_default-write_at-clause-kept g c = kept_then _ (g.D.Disk.meaning c.flushed.new.self) _ c.in-Ok.ensures.kept c.in_default-write_at.ensures.kept

pub returns-in_default-write_at-clause-crash : goal.returns-in_default-write_at-clause-crash
returns-in_default-write_at-clause-crash g c = λ m bytes u honest.
    (let some = c.requires.some in
    let place : c.args.size ≡ c.args.size - 1 + 1 = omega arith in
    gate_leaves m (g.D.Disk.meaning c.args.disk.now) (g.D.Disk.meaning c.flushed.new.self) (g.D.Disk.meaning c.write_at.new.self) c.args.size (c.args.size - 1) bytes u
    (g.met.D.Disk.sound c.args.disk.now) (g.met.D.Disk.sound c.flushed.new.self) c.in-Ok.ensures.kept c.in-Ok.ensures.did c.in-Ok.ensures.time place
    false honest c.in_default-write_at.ensures.did c.in_default-write_at.ensures.time)

pub returns-in_default-write_at-clause-cut_off : goal.returns-in_default-write_at-clause-cut_off
returns-in_default-write_at-clause-cut_off g c = λ m bytes u honest.
    (let some = c.requires.some in
    let place : c.args.size ≡ c.args.size - 1 + 1 = omega arith in
    gate_cut m (g.D.Disk.meaning c.args.disk.now) (g.D.Disk.meaning c.flushed.new.self) (g.D.Disk.meaning c.write_at.new.self) c.args.size (c.args.size - 1) bytes u
    (g.met.D.Disk.sound c.args.disk.now) (g.met.D.Disk.sound c.flushed.new.self) c.in-Ok.ensures.kept c.in-Ok.ensures.did c.in-Ok.ensures.time place
    honest c.in_default-write_at.ensures.did)

-- ---- and the gate is written

pub returns-clause-kept : goal.returns-clause-kept
returns-clause-kept g c =
    subst (λ n. Kept (g.D.Disk.meaning c.args.disk.now) n) (sym c.flush.ensures)
    (kept_then _ (g.D.Disk.meaning c.flushed.new.self) _ c.in-Ok.ensures.kept c.in-Ok-write_at.ensures.kept)

pub returns-clause-crash : goal.returns-clause-crash
returns-clause-crash g c = λ m bytes u honest.
    (let some = c.requires.some in
    let place : c.args.size ≡ c.args.size - 1 + 1 = omega arith in
    let a = g.D.Disk.meaning c.args.disk.now in
    subst (λ n. Leaves c.args.size bytes m a n) (sym c.flush.ensures)
    (gate_leaves m a (g.D.Disk.meaning c.flushed.new.self) (g.D.Disk.meaning c.write_at.new.self) c.args.size (c.args.size - 1) bytes u
    (g.met.D.Disk.sound c.args.disk.now) (g.met.D.Disk.sound c.flushed.new.self) c.in-Ok.ensures.kept c.in-Ok.ensures.did c.in-Ok.ensures.time place
    true honest c.in-Ok-write_at.ensures.did c.in-Ok-write_at.ensures.time))

pub returns-clause-under : goal.returns-clause-under
returns-clause-under g c = λ m bytes u.
    (let some = c.requires.some in
    let place : c.args.size ≡ c.args.size - 1 + 1 = omega arith in
    let end = c.args.size + length bytes in
    let kept = c.in-Ok-write_at.ensures.kept in
    subst (λ n. UnderWay Opened c.args.size bytes m n) (sym c.flush.ensures)
    (gate_opened m (g.D.Disk.meaning c.args.disk.now) (g.D.Disk.meaning c.flushed.new.self) (g.D.Disk.meaning c.write_at.new.self) c.args.size (c.args.size - 1) bytes u
    (g.met.D.Disk.sound c.args.disk.now) (g.met.D.Disk.sound c.flushed.new.self) c.in-Ok.ensures.kept c.in-Ok.ensures.did c.in-Ok.ensures.time place
    kept (kept.no_shorter end (c.in-Ok.ensures.kept.no_shorter end u.reaches)) c.in-Ok-write_at.ensures.did c.in-Ok-write_at.ensures.time))
