use Rattle.std.proofs.Common.{not, arith}
use Rattle.deleted_step.specs.Steps.{is_among}
use Rattle.manifest_store.specs.Moves.{has_file, takes, brings}
use Rattle.manifest_store.proofs.Taken.{next_adds, all_added}
use Rattle.manifest_store.proofs.moves.moved_by_edits.Goals as goal

pub loop-edit-preserved : goal.loop-edit-preserved
loop-edit-preserved c =
    let es = c.args.edits.now in
    let i = c.loop-edit.edit-index in
    let x = c.edit-item.result in
    record {
      gone = λ past s p. next_adds (has_file past p) (λ e. takes e p) es i x (is_among p c.loop-edit.moved.gone.items) (is_among p c.add_edit.new.moved.gone.items) _ c.loop-edit-test.true c.edit-item.is (c.in_ok-add_edit.ensures.gone past s p) (c.loop-edit.invariant.gone past s p);
      come = λ past s p. next_adds (not (has_file past p)) (λ e. brings e p) es i x (is_among p c.loop-edit.moved.come.items) (is_among p c.add_edit.new.moved.come.items) _ c.loop-edit-test.true c.edit-item.is (c.in_ok-add_edit.ensures.come past s p) (c.loop-edit.invariant.come past s p);
    }

pub returns-clause-gone : goal.returns-clause-gone
returns-clause-gone c = λ past s p. all_added (has_file past p) (λ e. takes e p) c.args.edits.now c.loop-edit.edit-index (is_among p c.loop-edit.moved.gone.items) _ (omega (arith, c.loop-edit-test.false)) (c.loop-edit.invariant.gone past s p)

pub returns-clause-come : goal.returns-clause-come
returns-clause-come c = λ past s p. all_added (not (has_file past p)) (λ e. brings e p) c.args.edits.now c.loop-edit.edit-index (is_among p c.loop-edit.moved.come.items) _ (omega (arith, c.loop-edit-test.false)) (c.loop-edit.invariant.come past s p)
