use Rattle.std.proofs.Common.{length, arith, refl, sym, subst, true, false}
use Rattle.std.proofs.lemmas.List.{length-replicate}
use Rattle.disk_model.specs.Images.{Syncs}
use Rattle.blob_disk.specs.Memory.{disk_of, IsGood}
use Rattle.disk_model.specs.Calls.{DidBy}
use Rattle.blob_disk.specs.declared.call_kind.CallKind.TheVariants.{Sync}
use Rattle.blob_disk.proofs.Memories.{synced_did, good_holding_all}
use Rattle.blob_disk.proofs.Moments.{kept_same, kept_moved, only_moved, agrees_moved, same_counted, same_failed}
use Rattle.blob_disk.proofs.mem_disk.MemDiskDisk.sync.Goals as goal

pub returns-then-not-has_room-clause-kept : goal.returns-then-not-has_room-clause-kept
returns-then-not-has_room-clause-kept c =
    let was = c.args.self.now.calls in
    kept_same c.args.self.now.content c.args.self.now.log was c.fail.new.self
    (same_failed Sync was c.count-due.new.self c.fail.new.self c.count-due.ensures.counted c.fail.ensures.failed)

pub invariant_of-self-then-due : goal.invariant_of-self-then-due
invariant_of-self-then-due c =
    let d = c.args.self.now in
    record {
      good = d.good;
      agrees = agrees_moved d.content d.content d.log c.note.new.log (Syncs false) 0 d.agrees refl c.note.ensures refl;
    }

pub returns-then-due-clause-kept : goal.returns-then-due-clause-kept
returns-then-due-clause-kept c =
    let d = c.args.self.now in
    kept_moved d.content d.content d.log c.note.new.log d.calls c.fail-then-due.new.self (Syncs false) 0 d.agrees refl c.note.ensures refl (omega arith)
    (same_failed Sync d.calls c.count-due.new.self c.fail-then-due.new.self c.count-due.ensures.counted c.fail-then-due.ensures.failed)

pub invariant_of-self-2 : goal.invariant_of-self-2
invariant_of-self-2 c =
    let d = c.args.self.now in
    record {
      good = subst (λ m. IsGood m) (sym c.sync.ensures) (good_holding_all d.content.reads (length d.content.marks) d.good.are_bytes d.good.fits);
      agrees = agrees_moved d.content c.sync.new.self d.log c.note-2.new.log (Syncs true) 0 d.agrees c.sync.ensures c.note-2.ensures (length-replicate (length d.content.marks) false);
    }

pub returns-clause-did : goal.returns-clause-did
returns-clause-did c = λ honest.
    (let d = c.args.self.now in
    subst (λ m. DidBy (Syncs true) (disk_of d.content) (disk_of m)) (sym c.sync.ensures) (synced_did d.content))

pub returns-clause-kept : goal.returns-clause-kept
returns-clause-kept c =
    let d = c.args.self.now in
    kept_moved d.content c.sync.new.self d.log c.note-2.new.log d.calls c.count-due.new.self (Syncs true) 0 d.agrees c.sync.ensures c.note-2.ensures
    (length-replicate (length d.content.marks) false) (omega arith)
    (same_counted Sync d.calls c.count-due.new.self c.count-due.ensures.counted)

pub returns-then-due-clause-time : goal.returns-then-due-clause-time
returns-then-due-clause-time c =
    let d = c.args.self.now in
    only_moved d.content d.content d.log c.note.new.log d.calls c.fail-then-due.new.self (Syncs false) 0 d.agrees refl c.note.ensures refl

pub returns-clause-time : goal.returns-clause-time
returns-clause-time c =
    let d = c.args.self.now in
    only_moved d.content c.sync.new.self d.log c.note-2.new.log d.calls c.count-due.new.self (Syncs true) 0 d.agrees c.sync.ensures c.note-2.ensures (length-replicate (length d.content.marks) false)
