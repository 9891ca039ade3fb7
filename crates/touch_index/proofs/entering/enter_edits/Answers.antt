use Rattle.std.proofs.Common.{take, map}
use Rattle.touch_index.specs.Entered.{IsEntered}
use Rattle.touch_index.proofs.Staying.{kept_all, one_more, all_taken}
use Rattle.touch_index.proofs.entering.enter_edits.Goals as goal

pub edits-preserved : goal.edits-preserved
edits-preserved c =
    let e = c.in_ok-enter_path.ensures in
    record {
      at_rises = e.at_rises;
      under_rises = e.under_rises;
      at_keeps = λ key n inside. e.at_keeps key n (c.edits.invariant.at_keeps key n inside);
      under_keeps = λ key n inside. e.under_keeps key n (c.edits.invariant.under_keeps key n inside);
      entered = one_more (λ e. e.path) (IsEntered c.enter_path.new.at c.enter_path.new.under c.args.number) c.args.edits.now c.edits.edit-index c.edit-item.result c.edits-test.true c.edit-item.is
          (kept_all c.edits.at c.edits.under c.enter_path.new.at c.enter_path.new.under e.at_keeps e.under_keeps c.args.number (map (λ e. e.path) (take c.edits.edit-index c.args.edits.now)) c.edits.invariant.entered) e.entered;
    }

pub returns-clause-entered : goal.returns-clause-entered
returns-clause-entered c = all_taken (λ e. e.path) (IsEntered c.edits.at c.edits.under c.args.number) c.args.edits.now c.edits.edit-index c.edits-test.false c.edits.invariant.entered
