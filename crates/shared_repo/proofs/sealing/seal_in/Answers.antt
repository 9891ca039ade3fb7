use Rattle.std.proofs.Common.{Ok, Err, true, false, not, ap, refl}
use Rattle.repo_journal.specs.declared.fault.DiskFault.{DiskFault}
use Rattle.shared_repo.proofs.LastTurns.{seal_of}
use Rattle.shared_repo.proofs.Turning.{seal_lasts, seal_turns, sealed_last}
use Rattle.shared_repo.proofs.sealing.seal_in.Goals as goal

pub returns-in-Ok-clause-turn : goal.returns-in-Ok-clause-turn
returns-in-Ok-clause-turn g c = λ unsealed.
    let was = c.history_length-length.ensures in
    let e = c.in-Ok.ensures in
    let before = c.args.state.now in
    let after = c.seal_step.new.self in
    seal_turns c.args.who false false unsealed before after e.history refl e.opening e.grows (seal_lasts c.args.who false before after e.history was.header e.grows e.sound e.kept e.reaches e.leaves)

pub returns-in-Ok-clause-seals : goal.returns-in-Ok-clause-seals
returns-in-Ok-clause-seals g c = λ last.
    let was = c.history_length-length.ensures in
    let e = c.in-Ok.ensures in
    seal_of {A = Unit {0}} {E = Unit {0}} (Ok tt) c.args.who c.args.upto c.args.state.now c.seal_step.new.self was.sound was.header e.opening e.sound e.history e.grows tt e.kept e.faults e.leaves (e.sealed (sealed_last DiskFault c.in-Ok.step last)) e.still e.down

pub returns-in-Err-clause-seals : goal.returns-in-Err-clause-seals
returns-in-Err-clause-seals g c = λ last.
    let was = c.history_length-length.ensures in
    let e = c.in-Err.ensures in
    seal_of {A = Unit {0}} (Err c.in-Err.fault) c.args.who c.args.upto c.args.state.now c.seal_step.new.self was.sound was.header e.opening e.sound e.history e.grows e.fails e.kept e.faults e.leaves tt e.still e.down

pub returns-in-Err-clause-turn : goal.returns-in-Err-clause-turn
returns-in-Err-clause-turn g c = λ unsealed.
    let was = c.history_length-length.ensures in
    let e = c.in-Err.ensures in
    let before = c.args.state.now in
    let after = c.seal_step.new.self in
    seal_turns c.args.who true _ unsealed before after e.history (ap not c.down-up.ensures) e.opening e.grows (seal_lasts c.args.who true before after e.history was.header e.grows e.sound e.kept e.reaches e.leaves)
