use Rattle.std.proofs.Common.{refl, sym, ap, ◌∙◌}
use Rattle.changeset_model.specs.Changeset.{id_of, spelling}
use Rattle.history_model.specs.History.{is_known}
use Rattle.repo_machine.specs.Held.{repository}
use Rattle.repo_machine.proofs.Judging.{passes_refusal}
use Rattle.repo_machine.proofs.Uploading.{parents_found, contents_found, left_found, collision_found, judged_as, is_new}
use Rattle.repo_machine.proofs.machine.Machine.check_changeset.Goals as goal

pub returns-in_err-check_parents-clause-err : goal.returns-in_err-check_parents-clause-err
returns-in_err-check_parents-clause-err c =
    passes_refusal _ c.from_residual-in_err-check_parents.result _ c.from_residual-in_err-check_parents.ensures.1 (parents_found c.self.invariant.1 (repository c.args.self.now) (ap repository c.self.view_is) c.in_ok-check_up.ensures.ok (spelling c.args.upload.now) c.args.upload.now c.requires.decodes _ (c.parents.ensures.parents ∙ ap (λ m. m.parents) c.changeset.ensures) _ c.in_err-check_parents.ensures)

pub returns-in_err-check_contents-clause-err : goal.returns-in_err-check_contents-clause-err
returns-in_err-check_contents-clause-err c =
    passes_refusal _ c.from_residual-in_err-check_contents.result _ c.from_residual-in_err-check_contents.ensures.1 (contents_found c.self.invariant.1 (repository c.args.self.now) (ap repository c.self.view_is) c.in_ok-check_up.ensures.ok (spelling c.args.upload.now) c.args.upload.now c.requires.decodes _ (c.parents.ensures.parents ∙ ap (λ m. m.parents) c.changeset.ensures) c.in_ok-check_parents.ensures _ (c.edits.ensures.edits ∙ ap (λ m. m.changes) c.changeset-2.ensures) _ c.in_err-check_contents.ensures)

pub returns-in_err-check_resolved-clause-err : goal.returns-in_err-check_resolved-clause-err
returns-in_err-check_resolved-clause-err c =
    passes_refusal _ c.from_residual-in_err-check_resolved.result _ c.from_residual-in_err-check_resolved.ensures.1 (left_found c.self.invariant.1 (repository c.args.self.now) (ap repository c.self.view_is) c.in_ok-check_up.ensures.ok (spelling c.args.upload.now) c.args.upload.now c.requires.decodes _ (c.parents.ensures.parents ∙ ap (λ m. m.parents) c.changeset.ensures) c.in_ok-check_parents.ensures _ (c.edits.ensures.edits ∙ ap (λ m. m.changes) c.changeset-2.ensures) c.in_ok-check_contents.ensures _ c.requires.left _ c.in_err-check_resolved.ensures)

pub returns-then-is_other-clause-err : goal.returns-then-is_other-clause-err
returns-then-is_other-clause-err c =
    collision_found c.self.invariant.1 (repository c.args.self.now) (ap repository c.self.view_is) c.in_ok-check_up.ensures.ok (spelling c.args.upload.now) c.args.upload.now c.requires.decodes _ (c.parents.ensures.parents ∙ ap (λ m. m.parents) c.changeset.ensures) c.in_ok-check_parents.ensures _ (c.edits.ensures.edits ∙ ap (λ m. m.changes) c.changeset-2.ensures) c.in_ok-check_contents.ensures _ c.requires.left c.in_ok-check_resolved.ensures (sym c.is_other.ensures.found ∙ c.if-is_other.true) c.id-id.result c.id-id.ensures

pub returns-clause-ok : goal.returns-clause-ok
returns-clause-ok c =
    let alone = sym c.is_other.ensures.found ∙ c.if-is_other.false in
    let known = c.is_known.ensures ∙ ap (is_known c.self.inside.changesets.known) c.id-id.ensures in record {
      judged = judged_as c.self.invariant.1 (repository c.args.self.now) (ap repository c.self.view_is) c.in_ok-check_up.ensures.ok (spelling c.args.upload.now) c.args.upload.now c.requires.decodes _ (c.parents.ensures.parents ∙ ap (λ m. m.parents) c.changeset.ensures) c.in_ok-check_parents.ensures _ (c.edits.ensures.edits ∙ ap (λ m. m.changes) c.changeset-2.ensures) c.in_ok-check_contents.ensures _ c.requires.left c.in_ok-check_resolved.ensures alone (id_of c.args.upload.now) refl _ known;
      new = λ e. is_new c.self.invariant.1 (repository c.args.self.now) (ap repository c.self.view_is) c.in_ok-check_up.ensures.ok (spelling c.args.upload.now) c.args.upload.now c.requires.decodes _ (c.parents.ensures.parents ∙ ap (λ m. m.parents) c.changeset.ensures) c.in_ok-check_parents.ensures _ (c.edits.ensures.edits ∙ ap (λ m. m.changes) c.changeset-2.ensures) c.in_ok-check_contents.ensures _ c.requires.left c.in_ok-check_resolved.ensures alone (id_of c.args.upload.now) refl (sym e ∙ known);
    }
