use Rattle.std.proofs.Common.{◌≡◌, false, ◌∙◌, subst, rules}
use Rattle.std.specs.Bool.{OnTrue}
use Rattle.recovery.specs.Answers.{is_disk_fault}
use Rattle.recovery.specs.Reading.{IsAt}
use Rattle.recovery.specs.Settling.{Spares}
use Rattle.recovery.proofs.Spared.{looked_then, spares_then}
use Rattle.recovery.proofs.records.enter_all.Goals as goal

pub returns-in_err-enter_next-clause-spares : goal.returns-in_err-enter_next-clause-spares
returns-in_err-enter_next-clause-spares g c =
    let now = g.D.Disk.meaning c.loop.disk in
    let n = g.D.Disk.meaning c.enter_next.new.disk in
    let same : is_disk_fault c.enter_next.result ≡ is_disk_fault c.from_residual.result = search rules in
    spares_then (g.D.Disk.meaning c.args.disk.now) now n (is_disk_fault c.from_residual.result) c.loop.invariant.spares (subst (λ b. Spares now n b) same c.enter_next.ensures.spares)

pub loop-preserved : goal.loop-preserved
loop-preserved g c =
    let m = g.D.Disk.meaning c.args.disk.now in
    let now = g.D.Disk.meaning c.loop.disk in
    let n = g.D.Disk.meaning c.enter_next.new.disk in
    let next = c.in_ok-enter_next.ensures in
    record {
      at = subst (λ b. OnTrue b (IsAt n c.enter_next.new.machine.header c.enter_next.new.machine.history c.enter_next.new.scanner.gate c.enter_next.new.scanner)) c.if-branch.true next.more;
      manifests = next.manifests;
      header = next.header ∙ c.loop.invariant.header;
      looked = looked_then m now n c.loop.invariant.spares.kept c.loop.invariant.looked next.looked;
      spares = spares_then m now n false c.loop.invariant.spares next.spares;
    }

pub returns-clause-spares : goal.returns-clause-spares
returns-clause-spares g c =
    let now = g.D.Disk.meaning c.loop.disk in
    let n = g.D.Disk.meaning c.enter_next.new.disk in
    spares_then (g.D.Disk.meaning c.args.disk.now) now n false c.loop.invariant.spares c.in_ok-enter_next.ensures.spares
