use Rattle.std.proofs.Common.{◌≡◌, false, ◌∙◌, sym, subst, ap, rules}
use Rattle.reply_model.specs.Opening.{opens}
use Rattle.recovery.specs.Answers.{is_disk_fault}
use Rattle.recovery.specs.Headers.{IsHeaded}
use Rattle.recovery.specs.Settling.{Spares}
use Rattle.recovery.proofs.Files.{opens_as}
use Rattle.recovery.proofs.Spared.{spares_then}
use Rattle.recovery.proofs.opening.read_file.Goals as goal

pub returns-in_err-machine-clause-spares : goal.returns-in_err-machine-clause-spares
returns-in_err-machine-clause-spares g c =
    let a = g.D.Disk.meaning c.read_header.new.disk in
    let n = g.D.Disk.meaning c.read_records.new.disk in
    let same : is_disk_fault c.read_records.result ≡ is_disk_fault c.from_residual-in_err-machine.result = search rules in
    spares_then (g.D.Disk.meaning c.args.disk.now) a n (is_disk_fault c.from_residual-in_err-machine.result) c.in_ok-header.ensures.spares (subst (λ b. Spares a n b) same c.read_records.ensures.spares)

pub returns-clause-opens : goal.returns-clause-opens
returns-clause-opens g c = λ honest.
    (let m = g.D.Disk.meaning c.args.disk.now in
    let machine = c.in_ok-machine.machine in
    let head = c.in_ok-header.ensures in
    let read = c.in_ok-machine.ensures in
    let then_honest = head.spares.kept.honest ∙ honest in
    let now_honest = read.spares.kept.honest ∙ then_honest in
    opens_as machine.header machine.history m.state.reads ((g.met.D.Disk.sound c.args.disk.now).image honest).are_bytes
    (subst (λ hd. IsHeaded hd m.state.reads) (sym read.header) (head.headed honest (c.requires.whole honest)))
    (ap (λ d. opens d.reads) (sym (read.looked then_honest ∙ head.looked honest)) ∙ read.read.opens_is now_honest))

pub returns-clause-spares : goal.returns-clause-spares
returns-clause-spares g c =
    spares_then (g.D.Disk.meaning c.args.disk.now) (g.D.Disk.meaning c.read_header.new.disk) (g.D.Disk.meaning c.read_records.new.disk) false c.in_ok-header.ensures.spares c.in_ok-machine.ensures.spares
