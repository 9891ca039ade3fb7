use Rattle.std.proofs.Common.{◌≡◌, sym, subst}
use Rattle.std.specs.Prelude.{Ok}
use Rattle.std.specs.Arc.{arc_value}
use Rattle.changeset_model.specs.Changeset.{spelling}
use Rattle.changeset_model.specs.Decoding.{decoded}
use Rattle.history_model.specs.History.{Change}
use Rattle.reply_model.specs.Reply.{PutChangeset, ChangesetPut, judge}
use Rattle.repo_calls.specs.Refusing.{IsRefusal}
use Rattle.repo_machine.specs.Found.{IsLeft}
use Rattle.repo_machine.proofs.Judging.{passes_refusal}
use Rattle.repo_machine.proofs.Granting.{judges_nothing, judges_made, if_ok, all_prevented}
use Rattle.repo_machine.proofs.Replayed.{decides_as, decides_nothing, decides_made}
use Rattle.repo_machine.proofs.machine.Machine.judge_changeset.Goals as goal

pub check_changeset-requires-clause-decodes : goal.check_changeset-requires-clause-decodes
check_changeset-requires-clause-decodes c = subst (λ m. decoded (spelling m) ≡ Ok m) (sym c.deref-upload.ensures) c.requires.ready.decodes

pub check_changeset-requires-clause-left : goal.check_changeset-requires-clause-left
check_changeset-requires-clause-left c = subst (λ m. IsLeft c.args.self.now.history m c.args.left) (sym c.deref-upload.ensures) c.requires.left

pub returns-in_err-known-clause-err : goal.returns-in_err-known-clause-err
returns-in_err-known-clause-err c =
    passes_refusal _ c.from_residual.result _ c.from_residual.ensures.1
    (subst (λ m. IsRefusal (judge c.args.self.now.header c.args.self.now.history (PutChangeset (spelling m))) c.in_err-known.field-0.0) c.deref-upload.ensures c.in_err-known.ensures.err)

pub returns-then-known-clause-ok : goal.returns-then-known-clause-ok
returns-then-known-clause-ok c =
    let header = c.args.self.now.header in
    let h = c.args.self.now.history in
    let d = decides_as header h c.deref-upload.result.now (arc_value c.args.framed.commit) c.id.result c.in_ok-known.known c.deref-upload.ensures c.id.ensures c.in_ok-known.ensures.ok in
    judges_nothing header h c.args.self.now.room c.args.who (PutChangeset (spelling (arc_value c.args.framed.commit))) c.requires.ready.are (ChangesetPut c.id.result) (decides_nothing c.in_ok-known.known d c.if-known.true) c.unchanged.result c.unchanged.ensures

pub returns-clause-ok : goal.returns-clause-ok
returns-clause-ok c =
    let header = c.args.self.now.header in
    let h = c.args.self.now.history in
    let d = decides_as header h c.deref-upload.result.now (arc_value c.args.framed.commit) c.id.result c.in_ok-known.known c.deref-upload.ensures c.id.ensures c.in_ok-known.ensures.ok in
    if_ok c.make_framed.result _ _
    (λ j p. judges_made header h c.make_framed.new.self.room c.args.who (PutChangeset (spelling (arc_value c.args.framed.commit))) c.requires.ready.are (ChangesetPut c.id.result) (Change (arc_value c.args.framed.commit))
    (decides_made c.in_ok-known.known d c.if-known.false) (d.new c.if-known.false) j p) c.make_framed.ensures.ok

pub returns-clause-err : goal.returns-clause-err
returns-clause-err c =
    let header = c.args.self.now.header in
    let h = c.args.self.now.history in
    let d = decides_as header h c.deref-upload.result.now (arc_value c.args.framed.commit) c.id.result c.in_ok-known.known c.deref-upload.ensures c.id.ensures c.in_ok-known.ensures.ok in
    all_prevented c.make_framed.result header h (PutChangeset (spelling (arc_value c.args.framed.commit))) (ChangesetPut c.id.result) (Change (arc_value c.args.framed.commit)) (decides_made c.in_ok-known.known d c.if-known.false) c.make_framed.ensures.err
