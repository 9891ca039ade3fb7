use Rattle.std.proofs.Common.{[], ◌∙◌, sym, subst, ap}
use Rattle.std.specs.Prelude.{IsTrue}
use Rattle.history_model.specs.Journal.{is_header}
use Rattle.recovery.specs.Headers.{IsHeaded}
use Rattle.reply_model.specs.Legal.{IsLegal}
use Rattle.settled_merge.proofs.Known.{manifests_first}
use Rattle.recovery.proofs.Gates.{first_gate}
use Rattle.recovery.proofs.records.read_records.Goals as goal

pub enter_all-requires-clause-at : goal.enter_all-requires-clause-at
enter_all-requires-clause-at g c =
    let m = g.D.Disk.meaning c.args.disk.now in
    let header = c.new-machine.result.header in
    let same = c.new-machine.ensures.header in
    first_gate m header c.new-machine.result.history c.args.size c.in-Ok.scanner (g.met.D.Disk.sound c.args.disk.now)
    (subst (λ hd. IsTrue (is_header hd)) (sym same) c.requires.limits)
    c.new-machine.ensures.history c.requires.some c.requires.long c.requires.whole
    (λ honest. subst (λ hd. IsHeaded hd m.state.reads) (sym same) (c.requires.headed honest))
    (c.in-Ok.ensures ∙ ap (λ n. record { bytes = []; from = 0; gate = 16; size = n }) c.min.ensures)

pub enter_all-requires-clause-manifests : goal.enter_all-requires-clause-manifests
enter_all-requires-clause-manifests g c =
    let header = c.new-machine.result.header in
    let h = c.new-machine.result.history in
    manifests_first header h c.new-manifests.result
    (subst (λ hd. IsTrue (is_header hd)) (sym c.new-machine.ensures.header) c.requires.limits)
    (subst (IsLegal header) (sym c.new-machine.ensures.history) tt)
    c.new-manifests.ensures.manifests
