use Rattle.std.proofs.Common.{◌+◌, ◌∙◌, true, false, refl, sym, subst, ap}
use Rattle.std.specs.Prelude.{Err, IsTrue}
use Rattle.history_model.specs.Journal.{size}
use Rattle.reply_model.specs.Legal.{IsLegal}
use Rattle.reply_model.specs.Opening.{next_entry}
use Rattle.repo_journal.specs.Scanning.{IsNext, step_at}
use Rattle.repo_journal.specs.declared.step.Step.TheVariants.{Record}
use Rattle.recovery.specs.Reading.{IsAt}
use Rattle.recovery.specs.ReplayFaults.{is_read_fault}
use Rattle.recovery.specs.Settling.{Spares}
use Rattle.recovery.proofs.Gates.{before_gate, damaged_length, damaged_record, entered, moved}
use Rattle.recovery.proofs.Spared.{spares_look, spares_then}
use Rattle.recovery.proofs.records.enter_record.Goals as goal

pub returns-then-span-gt-MOST_PAYLOAD-clause-refused : goal.returns-then-span-gt-MOST_PAYLOAD-clause-refused
returns-then-span-gt-MOST_PAYLOAD-clause-refused g c = λ honest. damaged_length c.requires.before c.args.span honest c.requires.next (c.requires.step honest) c.if-span-gt-MOST_PAYLOAD.true

pub enter_payload-requires-clause-long : goal.enter_payload-requires-clause-long
enter_payload-requires-clause-long g c = c.in_ok-hold.ensures.kept.no_shorter (size c.args.machine.now.history) (before_gate c.requires.before c.args.span c.requires.next)

pub returns-in-Ok-clause-behind : goal.returns-in-Ok-clause-behind
returns-in-Ok-clause-behind g c =
    let m = g.D.Disk.meaning c.args.disk.now in
    let n = g.D.Disk.meaning c.hold.new.disk in
    let o = g.D.Disk.meaning c.enter_payload.new.disk in
    let w = c.args.scanner.now in
    let v = c.hold.new.self in
    let hold = c.in_ok-hold.ensures in
    let entering = c.enter_payload.ensures in
    let at = moved m n _ _ c.args.gate w v c.requires.before hold.looked hold.kept hold.size hold.holds in
    let next : IsNext c.args.gate v.size (Record c.args.span) = subst (λ k. IsNext c.args.gate k (Record c.args.span)) (sym hold.size) c.requires.next in
    let is = λ (honest : IsTrue n.honest). (let was = sym hold.kept.honest ∙ honest in ap (λ d. step_at d.reads c.args.gate) (hold.looked was) ∙ c.requires.step was) in
    let same = entering.header in
    let legal = subst (λ hd. IsLegal hd c.enter_payload.new.machine.history) same entering.legal in
    let made = c.in-Ok.ensures.ok in
    let behind =
    entered at c.args.span made.0 c.held.result.now next is hold.held c.held.ensures.bytes c.held.ensures.file made.1 c.enter_payload.new.machine.history made.2 c.in-Ok.ensures.size legal entering.stored in
    subst (λ hd. IsAt o hd c.enter_payload.new.machine.history (c.args.span.at + c.args.span.length) v) (sym same)
    (moved n o _ _ (c.args.span.at + c.args.span.length) v v behind entering.looked entering.spares.kept refl (λ _ holds. holds))

pub returns-in-Err-BadPayload-clause-refused : goal.returns-in-Err-BadPayload-clause-refused
returns-in-Err-BadPayload-clause-refused g c = λ honest.
    (let m = g.D.Disk.meaning c.args.disk.now in
    let n = g.D.Disk.meaning c.hold.new.disk in
    let hold = c.in_ok-hold.ensures in
    let held = c.held.ensures.file m.state.reads (hold.holds honest (c.requires.before.holds honest)) in
    let none = c.enter_payload.ensures.bad (c.in-Err-BadPayload.is ∙ ap (λ e. Err e) c.in-Err-BadPayload.field-0-is) in
    let there = none m.state.reads (λ _. (hold.kept.honest ∙ honest, ap (λ d. d.reads) (sym (hold.looked honest)))) in
    damaged_record c.requires.before c.args.span honest (c.requires.step honest) (ap (λ p. next_entry m.state.reads c.args.machine.now.header c.args.machine.now.history p) (sym held) ∙ there))

pub returns-in-Ok-clause-spares : goal.returns-in-Ok-clause-spares
returns-in-Ok-clause-spares g c =
    let m = g.D.Disk.meaning c.args.disk.now in
    let n = g.D.Disk.meaning c.hold.new.disk in
    let o = g.D.Disk.meaning c.enter_payload.new.disk in
    let hold = c.in_ok-hold.ensures in
    spares_then m n o false (spares_look m n false hold.looked hold.kept (λ _. hold.time) hold.faults) (subst (λ r. Spares n o (is_read_fault r)) c.in-Ok.is c.enter_payload.ensures.spares)

pub returns-in-Err-BadPayload-clause-spares : goal.returns-in-Err-BadPayload-clause-spares
returns-in-Err-BadPayload-clause-spares g c =
    let m = g.D.Disk.meaning c.args.disk.now in
    let n = g.D.Disk.meaning c.hold.new.disk in
    let o = g.D.Disk.meaning c.enter_payload.new.disk in
    let hold = c.in_ok-hold.ensures in
    let is = c.in-Err-BadPayload.is ∙ ap (λ e. Err e) c.in-Err-BadPayload.field-0-is in
    spares_then m n o false (spares_look m n false hold.looked hold.kept (λ _. hold.time) hold.faults) (subst (λ r. Spares n o (is_read_fault r)) is c.enter_payload.ensures.spares)

pub returns-in-Err-DiskFault-clause-spares : goal.returns-in-Err-DiskFault-clause-spares
returns-in-Err-DiskFault-clause-spares g c =
    let m = g.D.Disk.meaning c.args.disk.now in
    let n = g.D.Disk.meaning c.hold.new.disk in
    let o = g.D.Disk.meaning c.enter_payload.new.disk in
    let hold = c.in_ok-hold.ensures in
    let is = c.in-Err-DiskFault.is ∙ ap (λ e. Err e) c.in-Err-DiskFault.field-0-is in
    spares_then m n o true (spares_look m n false hold.looked hold.kept (λ _. hold.time) hold.faults) (subst (λ r. Spares n o (is_read_fault r)) is c.enter_payload.ensures.spares)

pub returns-in-Err-Memory-clause-spares : goal.returns-in-Err-Memory-clause-spares
returns-in-Err-Memory-clause-spares g c =
    let m = g.D.Disk.meaning c.args.disk.now in
    let n = g.D.Disk.meaning c.hold.new.disk in
    let o = g.D.Disk.meaning c.enter_payload.new.disk in
    let hold = c.in_ok-hold.ensures in
    let is = c.in-Err-Memory.is ∙ ap (λ e. Err e) c.in-Err-Memory.field-0-is in
    spares_then m n o false (spares_look m n false hold.looked hold.kept (λ _. hold.time) hold.faults) (subst (λ r. Spares n o (is_read_fault r)) is c.enter_payload.ensures.spares)
