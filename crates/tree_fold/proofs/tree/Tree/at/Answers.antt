use Rattle.std.proofs.Common.{ap, ◌∙◌}
use Rattle.history_model.specs.Tree.{file_at}
use Rattle.tree_fold.proofs.Trees.{file_of_map, file_at-files}
use Rattle.tree_fold.proofs.tree.Tree.at.Goals as goal

pub returns-clause-file : goal.returns-clause-file
returns-clause-file c = file_of_map c.self.inside.files c.args.self.now c.args.path.now c.get.result c.self.view_is c.get.ensures.value

pub returns-clause-tree : goal.returns-clause-tree
returns-clause-tree c = λ cs is. returns-clause-file c ∙ ap (λ fs. file_at fs c.args.path.now) is ∙ file_at-files cs c.args.path.now
