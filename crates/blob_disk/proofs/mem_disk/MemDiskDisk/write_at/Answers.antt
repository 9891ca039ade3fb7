use Rattle.std.proofs.Common.{◌≡◌, ◌+◌, ◌≤◌, true, false, length, ap, arith, refl, sym, subst, ◌∙◌}
use Rattle.disk_model.specs.Images.{Writes}
use Rattle.disk_model.proofs.Crashes.{write_at_len}
use Rattle.blob_disk.specs.Memory.{disk_of, IsGood}
use Rattle.disk_model.specs.Calls.{DidBy}
use Rattle.blob_disk.specs.declared.call_kind.CallKind.TheVariants.{Write}
use Rattle.blob_disk.proofs.Memories.{refused_did, tore_did, wrote_did, tore_is, tore_len, good_tore, good_wrote, reaches}
use Rattle.blob_disk.proofs.Moments.{kept_same, kept_moved, only_moved, agrees_moved, same_counted, same_failed}
use Rattle.blob_disk.proofs.mem_disk.MemDiskDisk.write_at.Goals as goal

pub returns-then-not-has_room-clause-did : goal.returns-then-not-has_room-clause-did
returns-then-not-has_room-clause-did c = λ honest. refused_did c.args.at c.args.bytes.now c.args.self.now.content

pub returns-then-not-has_room-clause-kept : goal.returns-then-not-has_room-clause-kept
returns-then-not-has_room-clause-kept c =
    let was = c.args.self.now.calls in
    kept_same c.args.self.now.content c.args.self.now.log was c.fail.new.self
    (same_failed Write was c.count-due.new.self c.fail.new.self c.count-due.ensures.counted c.fail.ensures.failed)

pub invariant_of-self-then-due : goal.invariant_of-self-then-due
invariant_of-self-then-due c =
    let d = c.args.self.now in
    let len = length c.args.bytes.now in
    let place : c.args.at ≤ length d.content.reads = c.requires d.content.reads refl in
    let room = tore_len c.args.at len d.content d.good place in
    record {
      good = subst (λ m. IsGood m) (sym c.tear.ensures) (good_tore c.args.at len d.content d.good place);
      agrees = agrees_moved d.content c.tear.new.self d.log c.note.new.log _ 0 d.agrees (c.tear.ensures ∙ tore_is c.args.at len d.content) c.note.ensures (ap (λ m. length m.marks) (sym (tore_is c.args.at len d.content)) ∙ room);
    }

pub returns-then-due-clause-did : goal.returns-then-due-clause-did
returns-then-due-clause-did c = λ honest.
    (let d = c.args.self.now in
    subst (λ m. DidBy (Writes c.args.at c.args.bytes.now false) (disk_of d.content) (disk_of m)) (sym c.tear.ensures)
    (tore_did c.args.at c.args.bytes.now d.content d.good (c.requires d.content.reads refl)))

pub returns-then-due-clause-kept : goal.returns-then-due-clause-kept
returns-then-due-clause-kept c =
    let d = c.args.self.now in
    let len = length c.args.bytes.now in
    let place : c.args.at ≤ length d.content.reads = c.requires d.content.reads refl in
    let room = tore_len c.args.at len d.content d.good place in
    kept_moved d.content c.tear.new.self d.log c.note.new.log d.calls c.fail-then-due.new.self _ 0 d.agrees
    (c.tear.ensures ∙ tore_is c.args.at len d.content) c.note.ensures
    (ap (λ m. length m.marks) (sym (tore_is c.args.at len d.content)) ∙ room)
    (omega arith)
    (same_failed Write d.calls c.count-due.new.self c.fail-then-due.new.self c.count-due.ensures.counted c.fail-then-due.ensures.failed)

pub invariant_of-self-2 : goal.invariant_of-self-2
invariant_of-self-2 c =
    let d = c.args.self.now in
    let place : c.args.at ≤ length d.content.reads = c.requires d.content.reads refl in
    let fits = d.good.fits in
    let room : c.args.at + length c.args.bytes.now ≤ length d.content.marks = omega arith in
    record {
      good = subst (λ m. IsGood m) (sym c.write.ensures) (good_wrote c.args.at c.args.bytes.now d.content d.good place (λ i. (let h = c.type_inv.bytes i in omega arith)) room);
      agrees = agrees_moved d.content c.write.new.self d.log c.note-2.new.log _ _ d.agrees c.write.ensures c.note-2.ensures (tore_len c.args.at (length c.args.bytes.now) d.content d.good place);
    }

pub returns-clause-did : goal.returns-clause-did
returns-clause-did c = λ honest.
    (let d = c.args.self.now in
    subst (λ m. DidBy (Writes c.args.at c.args.bytes.now true) (disk_of d.content) (disk_of m)) (sym c.write.ensures)
    (wrote_did c.args.at c.args.bytes.now d.content d.good (c.requires d.content.reads refl)))

pub returns-clause-kept : goal.returns-clause-kept
returns-clause-kept c =
    let d = c.args.self.now in
    let place : c.args.at ≤ length d.content.reads = c.requires d.content.reads refl in
    kept_moved d.content c.write.new.self d.log c.note-2.new.log d.calls c.count-due.new.self _ _ d.agrees c.write.ensures c.note-2.ensures
    (tore_len c.args.at (length c.args.bytes.now) d.content d.good place)
    (write_at_len c.args.at c.args.bytes.now d.content.reads)
    (same_counted Write d.calls c.count-due.new.self c.count-due.ensures.counted)

pub returns-then-due-clause-time : goal.returns-then-due-clause-time
returns-then-due-clause-time c =
    let d = c.args.self.now in
    let len = length c.args.bytes.now in
    let place : c.args.at ≤ length d.content.reads = c.requires d.content.reads refl in
    only_moved d.content c.tear.new.self d.log c.note.new.log d.calls c.fail-then-due.new.self _ 0 d.agrees
    (c.tear.ensures ∙ tore_is c.args.at len d.content) c.note.ensures
    (ap (λ m. length m.marks) (sym (tore_is c.args.at len d.content)) ∙ tore_len c.args.at len d.content d.good place)

pub returns-clause-time : goal.returns-clause-time
returns-clause-time c =
    let d = c.args.self.now in
    let place : c.args.at ≤ length d.content.reads = c.requires d.content.reads refl in
    only_moved d.content c.write.new.self d.log c.note-2.new.log d.calls c.count-due.new.self _ _ d.agrees c.write.ensures c.note-2.ensures
    (tore_len c.args.at (length c.args.bytes.now) d.content d.good place)

pub returns-clause-long : goal.returns-clause-long
returns-clause-long c = λ file is.
    (let d = c.args.self.now in
    let now : c.write.new.self.reads ≡ file = cc in
    let reads = ap (λ m. m.reads) c.write.ensures in
    subst (λ f. c.args.at + length c.args.bytes.now ≤ length f) (sym reads ∙ now) (reaches c.args.at c.args.bytes.now d.content.reads (c.requires d.content.reads refl)))
