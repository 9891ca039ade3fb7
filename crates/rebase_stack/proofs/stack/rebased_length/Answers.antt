use Rattle.std.proofs.Common.{length, ap, ◌∙◌, arith}
use Rattle.changeset_model.specs.Changeset.{spelling}
use Rattle.history_model.specs.Pushrebase.{on_parent}
use Rattle.rebase_stack.proofs.Lengths.{count_one_more}
use Rattle.rebase_stack.proofs.stack.rebased_length.Goals as goal

pub stack-preserved : goal.stack-preserved
stack-preserved c = record {
  sum = λ head moment rule.
      count_one_more c.args.stack.now c.stack.commit-index c.commit-item.result head moment c.stack.bytes c.length_on_parent.result _ c.stack-test.true c.commit-item.is rule
      (c.length_on_parent.ensures.value head moment rule ∙ ap (λ m. length (spelling (on_parent head moment m))) c.deref.ensures)
      (c.stack.invariant.sum head moment rule);
  short =
      (let before = c.stack.invariant.short in
      let here = c.length_on_parent.ensures.short in
      omega arith);
}
