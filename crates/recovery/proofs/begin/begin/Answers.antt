use Rattle.std.proofs.Common.{true, false, is_err, rules, arith}
use Rattle.ports.specs.Faults.{Counts}
use Rattle.recovery.proofs.Spared.{has_begun, spares_look, spares_sync, spares_then}
use Rattle.recovery.proofs.begin.begin.Goals as goal

pub returns-in_err-sync-clause-spares : goal.returns-in_err-sync-clause-spares
returns-in_err-sync-clause-spares g c =
    let m = g.D.Disk.meaning c.args.disk.now in
    let a = g.D.Disk.meaning c.size.new.self in
    let n = g.D.Disk.meaning c.sync.new.self in
    let counts : Counts a.faults n.faults (is_err c.from_residual-in_err-sync.result) = search rules in
    spares_then m a n (is_err c.from_residual-in_err-sync.result)
    (spares_look m a false c.in_ok-size.ensures.looked c.in_ok-size.ensures.kept (λ _. c.in_ok-size.ensures.time) c.in_ok-size.ensures.faults)
    (spares_sync a n false (is_err c.from_residual-in_err-sync.result) (g.met.D.Disk.sound c.size.new.self) c.in_err-sync.ensures.did c.in_err-sync.ensures.kept c.in_err-sync.ensures.time counts)

pub returns-clause-begun : goal.returns-clause-begun
returns-clause-begun g c =
    has_begun (g.D.Disk.meaning c.args.disk.now) (g.D.Disk.meaning c.size.new.self) (g.D.Disk.meaning c.sync.new.self) _ _ _ (g.met.D.Disk.sound c.args.disk.now)
    c.in_ok-size.ensures.size c.in_ok-size.ensures.looked c.in_ok-size.ensures.kept c.in_ok-sync.ensures.did c.in_ok-sync.ensures.kept c.in_ok-size.ensures.still c.in_ok-sync.ensures.next c.moment.ensures c.faults.ensures (let t = c.faults.type_inv in omega arith)

pub returns-clause-spares : goal.returns-clause-spares
returns-clause-spares g c =
    let m = g.D.Disk.meaning c.args.disk.now in
    let a = g.D.Disk.meaning c.size.new.self in
    let n = g.D.Disk.meaning c.sync.new.self in
    spares_then m a n false
    (spares_look m a false c.in_ok-size.ensures.looked c.in_ok-size.ensures.kept (λ _. c.in_ok-size.ensures.time) c.in_ok-size.ensures.faults)
    (spares_sync a n true false (g.met.D.Disk.sound c.size.new.self) c.in_ok-sync.ensures.did c.in_ok-sync.ensures.kept c.in_ok-sync.ensures.time c.in_ok-sync.ensures.faults)
