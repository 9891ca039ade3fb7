use Rattle.std.proofs.Common.{◌+◌, length, arith}
use Rattle.path_conflict.specs.Places.{paths_of}
use Rattle.repo_machine.proofs.Looking.{few_steps, one_edit_more, all_edits, one_more}
use Rattle.repo_machine.proofs.clashes.least_with.Goals as goal

pub edits-preserved : goal.edits-preserved
edits-preserved g c = record {
  best = λ seen best.
      one_edit_more (paths_of c.args.outer.now) c.args.edits.now c.edits.edit-index c.edit-item.result c.edits.least c.lesser_clash-least.result seen c.edits-test.true c.edit-item.is
      (c.edits.invariant.best seen best) (c.lesser_clash-least.ensures.best _);
  counted = omega arith;
  cost = λ digits fits.
      one_more (digits + 3) c.args.steps.now c.edits.steps c.lesser_clash-least.new.steps c.edits.edit-index (c.edits.invariant.cost digits fits)
      (few_steps c.edits.steps c.lesser_clash-least.new.steps (length c.args.outer.now) digits c.lesser_clash-least.ensures.counted c.lesser_clash-least.ensures.cost fits);
}

pub returns-clause-best : goal.returns-clause-best
returns-clause-best g c = λ seen best. all_edits (paths_of c.args.outer.now) c.args.edits.now c.edits.edit-index c.edits.least seen c.edits-test.false (c.edits.invariant.best seen best)
