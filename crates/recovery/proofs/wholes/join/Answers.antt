use Rattle.std.proofs.Common.{List, ◌≤◌, ◌∙◌, refl, arith}
use Rattle.std.proofs.lemmas.Result.{err_from_is_err_and}
use Rattle.byte_fields.specs.Bytes.{Id}
use Rattle.history_model.specs.Journal.{size}
use Rattle.recovery.proofs.Gates.{room_of}
use Rattle.recovery.proofs.PartsRead.{all_within, all_small, read_fails, read_joins}
use Rattle.recovery.proofs.wholes.join.Goals as goal

pub joined_id-requires-clause-within : goal.joined_id-requires-clause-within
joined_id-requires-clause-within g c =
    let room = room_of c.args.machine.now.header c.args.machine.now.history c.requires.limits c.requires.legal in
    let few : size c.args.machine.now.history ≤ 34_359_738_368 = (let fits = room.0 in let most = room.1 in omega arith) in
    all_within c.args.machine.now.header c.args.machine.now.history c.requires.legal c.entered_journal-journal.result (g.D.Disk.meaning c.args.disk.now) c.entered_journal-journal.ensures.size few c.args.parts.now c.as_slice.result.now (c.as_slice.ensures.value ∙ c.in_ok-pieces.ensures) c.requires.places

pub returns-in_err-id-clause-joins : goal.returns-in_err-id-clause-joins
returns-in_err-id-clause-joins g c =
    let room = room_of c.args.machine.now.header c.args.machine.now.history c.requires.limits c.requires.legal in
    let few : size c.args.machine.now.history ≤ 34_359_738_368 = (let fits = room.0 in let most = room.1 in omega arith) in
    let p = err_from_is_err_and c.from_residual-in_err-id.result c.from_residual-in_err-id.ensures.1 in
    rw (p.1, p.2) (read_fails c.args.machine.now.header c.args.machine.now.history c.requires.legal c.entered_journal-journal.result (g.D.Disk.meaning c.args.disk.now) c.entered_journal-journal.ensures.size few c.args.parts.now c.as_slice.result.now c.args.ids.items (c.as_slice.ensures.value ∙ c.in_ok-pieces.ensures) c.requires.ids c.requires.places c.in_err-id.field-0.0 c.in_err-id.ensures.err)

pub returns-clause-joins : goal.returns-clause-joins
returns-clause-joins g c =
    let room = room_of c.args.machine.now.header c.args.machine.now.history c.requires.limits c.requires.legal in
    let few : size c.args.machine.now.history ≤ 34_359_738_368 = (let fits = room.0 in let most = room.1 in omega arith) in
    let joined = c.in_ok-id.ensures.ok in (
      refl {A = List Id},
      read_joins c.args.machine.now.header c.args.machine.now.history c.requires.legal c.entered_journal-journal.result (g.D.Disk.meaning c.args.disk.now) c.entered_journal-journal.ensures.size few c.args.parts.now c.as_slice.result.now c.args.ids.items (c.as_slice.ensures.value ∙ c.in_ok-pieces.ensures) c.requires.ids c.requires.places
          joined.0 c.in_ok-id.id c.total.result joined.1 joined.2 c.total.ensures,
    )

pub total-requires-clause-small : goal.total-requires-clause-small
total-requires-clause-small g c =
    let room = room_of c.args.machine.now.header c.args.machine.now.history c.requires.limits c.requires.legal in
    let few : size c.args.machine.now.history ≤ 34_359_738_368 = (let fits = room.0 in let most = room.1 in omega arith) in
    all_small c.args.machine.now.header c.args.machine.now.history c.requires.legal c.entered_journal-journal.result (g.D.Disk.meaning c.args.disk.now) c.entered_journal-journal.ensures.size few c.args.parts.now c.requires.places
