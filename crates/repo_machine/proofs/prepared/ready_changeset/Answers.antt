use Rattle.std.proofs.Common.{◌≡◌, sym, ap, subst, ◌∙◌, arith}
use Rattle.std.specs.Prelude.{Ok}
use Rattle.changeset_model.specs.Changeset.{spelling}
use Rattle.changeset_model.specs.Decoding.{decoded}
use Rattle.reply_model.specs.Reply.{PutChangeset}
use Rattle.repo_machine.specs.Prepared.{IsRefusedAs}
use Rattle.repo_machine.proofs.MadeReady.{faulty}
use Rattle.repo_machine.proofs.Uploading.{spelled}
use Rattle.repo_machine.proofs.prepared.ready_changeset.Goals as goal

pub framed_changeset-requires-clause-spelled : goal.framed_changeset-requires-clause-spelled
framed_changeset-requires-clause-spelled c = spelled c.args.bytes.now c.in-Ok.commit (λ i. omega (arith, c.type_inv.bytes i)) c.in-Ok.ensures

pub framed_changeset-requires-clause-decoded : goal.framed_changeset-requires-clause-decoded
framed_changeset-requires-clause-decoded c = subst (λ bytes. decoded bytes ≡ Ok c.in-Ok.commit) (spelled c.args.bytes.now c.in-Ok.commit (λ i. omega (arith, c.type_inv.bytes i)) c.in-Ok.ensures) c.in-Ok.ensures

pub returns-in_ok-framed_changeset-in-Ok : goal.returns-in_ok-framed_changeset-in-Ok
returns-in_ok-framed_changeset-in-Ok c = (
  ap spelling c.in_ok-framed_changeset-in-Ok.ensures.changeset ∙ sym (spelled c.args.bytes.now c.in-Ok.commit (λ i. omega (arith, c.type_inv.bytes i)) c.in-Ok.ensures),
  c.in_ok-framed_changeset-in-Ok.ensures.ready,
)

pub returns-in_ok-refusal_of-in-Err : goal.returns-in_ok-refusal_of-in-Err
returns-in_ok-refusal_of-in-Err c =
    subst (IsRefusedAs (PutChangeset c.args.bytes.now)) (sym c.in_ok-refusal_of-in-Err.ensures.same) (faulty c.args.bytes.now c.in-Err.fault c.in-Err.ensures c.in_ok-refusal_of-in-Err.ensures.known)
