use Rattle.std.proofs.Common.{sym, ap, ◌∙◌}
use Rattle.std.specs.FinMap.{is_sorted}
use Rattle.changeset_model.specs.Path.{path_cmp}
use Rattle.tree_fold.proofs.Trees.{rising_sorted}
use Rattle.merge_tree.proofs.flat.Flat.files.Goals as goal

pub returns-clause-rising : goal.returns-clause-rising
returns-clause-rising c = rising_sorted c.args.self.now (ap (is_sorted path_cmp) (sym c.self.view_is) ∙ c.self.invariant)
