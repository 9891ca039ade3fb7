use Rattle.std.proofs.Common.{ap, ◌∙◌}
use Rattle.sha2.specs.Sha256.{sha256}
use Rattle.changeset_model.specs.Changeset.{spelling}
use Rattle.run_gen.specs.Stacks.{edit_on, edited}
use Rattle.run_gen.specs.declared.part.Part.{Part}
use Rattle.run_gen.proofs.upload.next_upload.Goals as goal

made : goal.returns-clause-encoding
made c =
    let at = edited c.args.client c.args.stack c.args.place c.args.parent in
    let part = ap (λ (p : Part). at (edit_on c.args.client p)) c.draw-part.ensures.part in
    c.in_ok-encoding.ensures ∙ ap spelling (c.in_ok-changeset.ensures ∙ ap at c.in_ok-edit.ensures.edit ∙ part)

pub returns-clause-encoding : goal.returns-clause-encoding
returns-clause-encoding c = made c

pub returns-clause-id : goal.returns-clause-id
returns-clause-id c = c.of-id.ensures ∙ ap sha256 (c.as_slice.ensures.value ∙ made c)
