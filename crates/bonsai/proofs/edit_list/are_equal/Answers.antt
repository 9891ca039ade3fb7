use Rattle.std.proofs.Common.{◌∙◌}
use Rattle.bonsai.specs.EqualViews.{edit_lists_eq}
use Rattle.bonsai.proofs.edit_list.are_equal.Goals as goal

pub returns : goal.returns
returns c = c.eq.ensures ∙ edit_lists_eq c.args.left.now c.args.right.now
