use Rattle.std.proofs.Common.{◌≡◌, ◌∙◌, false, sym, subst, ap, rules}
use Rattle.repo_journal.specs.Scanning.{IsNext, step_at}
use Rattle.recovery.specs.Answers.{is_disk_fault}
use Rattle.recovery.specs.Settling.{Spares}
use Rattle.recovery.proofs.Gates.{at_end, damaged_gate, step_seen}
use Rattle.recovery.proofs.Spared.{spares_look, spares_then}
use Rattle.recovery.proofs.records.enter_next.Goals as goal

pub enter_record-requires-clause-step : goal.enter_record-requires-clause-step
enter_record-requires-clause-step g c = λ honest.
    (let m = g.D.Disk.meaning c.args.disk.now in
    let next = c.in_ok-next.ensures in
    let was = sym next.kept.honest ∙ honest in
    ap (λ d. step_at d.reads c.gate-gate.result) (next.looked was)
    ∙ ap (λ k. step_at m.state.reads k) c.gate-gate.ensures
    ∙ sym (step_seen c.requires.at c.in_ok-next.field-0 (g.met.D.Disk.sound c.args.disk.now) was (next.step was (c.requires.at.holds was)))
    ∙ c.in-Record.is)

pub returns-in_err-enter_record-in-Record-clause-spares : goal.returns-in_err-enter_record-in-Record-clause-spares
returns-in_err-enter_record-in-Record-clause-spares g c =
    let m = g.D.Disk.meaning c.args.disk.now in
    let a = g.D.Disk.meaning c.next.new.disk in
    let n = g.D.Disk.meaning c.enter_record.new.disk in
    let next = c.in_ok-next.ensures in
    let same : is_disk_fault c.enter_record.result ≡ is_disk_fault c.from_residual-in_err-enter_record-in-Record.result = search rules in
    spares_then m a n (is_disk_fault c.from_residual-in_err-enter_record-in-Record.result) (spares_look m a false next.looked next.kept (λ _. next.time) next.faults)
    (subst (λ b. Spares a n b) same c.enter_record.ensures.spares)

pub returns-in-Closed-clause-read : goal.returns-in-Closed-clause-read
returns-in-Closed-clause-read g c =
    let m = g.D.Disk.meaning c.args.disk.now in
    let next = c.in_ok-next.ensures in
    at_end c.requires.at (g.D.Disk.meaning c.next.new.disk) (g.met.D.Disk.sound c.args.disk.now) next.looked next.kept
    (subst (λ s. IsNext c.args.scanner.now.gate c.args.scanner.now.size s) c.in-Closed.is next.inside)
    (λ honest. sym (step_seen c.requires.at c.in_ok-next.field-0 (g.met.D.Disk.sound c.args.disk.now) honest (next.step honest (c.requires.at.holds honest))) ∙ c.in-Closed.is)

pub returns-in-Bad-clause-refused : goal.returns-in-Bad-clause-refused
returns-in-Bad-clause-refused g c = λ honest.
    (let next = c.in_ok-next.ensures in
    damaged_gate c.requires.at c.in-Bad.at honest
    (subst (λ s. IsNext c.args.scanner.now.gate c.args.scanner.now.size s) c.in-Bad.is next.inside)
    (sym (step_seen c.requires.at c.in_ok-next.field-0 (g.met.D.Disk.sound c.args.disk.now) honest (next.step honest (c.requires.at.holds honest))) ∙ c.in-Bad.is))

pub returns-in_ok-enter_record-in-Record-clause-spares : goal.returns-in_ok-enter_record-in-Record-clause-spares
returns-in_ok-enter_record-in-Record-clause-spares g c =
    let m = g.D.Disk.meaning c.args.disk.now in
    let a = g.D.Disk.meaning c.next.new.disk in
    let next = c.in_ok-next.ensures in
    spares_then m a (g.D.Disk.meaning c.enter_record.new.disk) false (spares_look m a false next.looked next.kept (λ _. next.time) next.faults) c.in_ok-enter_record-in-Record.ensures.spares
