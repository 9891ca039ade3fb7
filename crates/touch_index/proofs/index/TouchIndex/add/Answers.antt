use Rattle.touch_index.proofs.Staying.{kept}
use Rattle.touch_index.proofs.index.TouchIndex.add.Goals as goal

pub returns-clause-keeps : goal.returns-clause-keeps
returns-clause-keeps c = record {
  touches = kept c.args.self.now.at c.args.self.now.under c.enter_edits.new.at c.enter_edits.new.under c.in_ok-enter_edits.ensures.at_keeps c.in_ok-enter_edits.ensures.under_keeps;
}
