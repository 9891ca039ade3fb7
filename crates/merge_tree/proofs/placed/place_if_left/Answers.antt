use Rattle.std.proofs.Common.{sym, ◌∙◌}
use Rattle.tree_fold.specs.Fold.{file_in}
use Rattle.merge_tree.specs.View.{flat_view}
use Rattle.merge_tree.proofs.Placing.{left-decided, left-there, left-placed}
use Rattle.merge_tree.proofs.placed.place_if_left.Goals as goal

pub returns-then-decides : goal.returns-then-decides
returns-then-decides c = λ p. left-decided c.args.change.now (flat_view c.args.file.now) p (file_in c.args.files.now p) (sym c.decides.ensures ∙ c.if-decides.true)

pub returns-then-contains_key : goal.returns-then-contains_key
returns-then-contains_key c = left-there c.args.files.now c.args.change.now c.args.file.now (sym c.contains_key.ensures ∙ c.if-contains_key.true)

pub returns : goal.returns
returns c = left-placed c.args.files.now c.insert.new.self c.args.change.now c.args.file.now _ (sym c.decides.ensures ∙ c.if-decides.false) (sym c.contains_key.ensures ∙ c.if-contains_key.false) c.in_ok-copy.ensures c.in_ok-insert.ensures.updates
