use Rattle.history_model.specs.Past.{At}
use Rattle.deleted_step.specs.Steps.{are_set}
use Rattle.deleted_step.proofs.Begun.{done_by, start_of}
use Rattle.deleted_step.proofs.derivation.derive_deleted.Goals as goal

pub returns-in_ok-renewed-in-Ok-clause-done : goal.returns-in_ok-renewed-in-Ok-clause-done
returns-in_ok-renewed-in-Ok-clause-done g c = λ k first second given.
    let x = c.args.id in
    let gone = c.args.gone.now in
    let come = c.args.come.now in
    done_by first (At k first second) x gone come c.in_ok-renewed-in-Ok.field-0
    (c.in_ok-renewed-in-Ok.ensures first (At k first second) (are_set x gone come) (start_of k first second x gone come c.in-Ok.unfolded given.id given.files (c.in-Ok.ensures.linked first given.root given.held)))
