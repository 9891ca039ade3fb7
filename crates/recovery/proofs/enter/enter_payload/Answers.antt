use Rattle.std.proofs.Common.{subst}
use Rattle.reply_model.specs.Legal.{IsLegal}
use Rattle.recovery.proofs.Manifests.{manifests_after}
use Rattle.recovery.proofs.Replays.{replayed_bad, replayed_err, replayed_ok, replayed_size, replayed_stored}
use Rattle.recovery.proofs.enter.enter_payload.Goals as goal

pub returns-clause-ok : goal.returns-clause-ok
returns-clause-ok g c =
    replayed_ok (g.D.Disk.meaning c.args.disk.now) c.args.machine.now.header c.args.machine.now.history c.args.payload.now c.enter_body.result c.enter_body.new.machine.history c.enter_body.ensures.replays

pub returns-clause-bad : goal.returns-clause-bad
returns-clause-bad g c =
    replayed_bad (g.D.Disk.meaning c.args.disk.now) c.args.machine.now.header c.args.machine.now.history c.args.payload.now c.enter_body.result c.enter_body.new.machine.history c.enter_body.ensures.replays

pub returns-clause-err : goal.returns-clause-err
returns-clause-err g c =
    replayed_err (g.D.Disk.meaning c.args.disk.now) c.args.machine.now.header c.args.machine.now.history c.args.payload.now c.enter_body.result c.enter_body.new.machine.history c.enter_body.ensures.replays

pub returns-clause-size : goal.returns-clause-size
returns-clause-size g c =
    replayed_size (g.D.Disk.meaning c.args.disk.now) c.args.machine.now.header c.args.machine.now.history c.args.payload.now c.enter_body.result c.enter_body.new.machine.history c.enter_body.ensures.replays

pub returns-clause-stored : goal.returns-clause-stored
returns-clause-stored g c =
    replayed_stored (g.D.Disk.meaning c.args.disk.now) c.args.machine.now.header c.args.machine.now.history c.args.payload.now c.enter_body.result c.enter_body.new.machine.history c.enter_body.ensures.replays c.requires.stored

pub returns-clause-manifests : goal.returns-clause-manifests
returns-clause-manifests g c =
    let after = c.enter_body.new.machine.history in
    manifests_after (g.D.Disk.meaning c.args.disk.now) c.args.machine.now.header c.args.machine.now.history c.args.payload.now c.enter_body.result after c.enter_body.new.manifests
    c.requires.limits c.enter_body.ensures.replays (subst (λ header. IsLegal header after) c.enter_body.ensures.header c.enter_body.ensures.legal) c.enter_body.ensures.manifests
