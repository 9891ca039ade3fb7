use Rattle.std.proofs.Common.{sym, subst}
use Rattle.std.proofs.lemmas.Result.{IfOk-weaker}
use Rattle.tree_fold.specs.Fold.{IsApart}
use Rattle.tree_fold.proofs.AtOnce.{apart_without_conflict}
use Rattle.tree_fold.proofs.Trees.{files-one-more, view_sorted, decided_view}
use Rattle.tree_fold.proofs.tree.Tree.apply.Goals as goal

pub apply_edits-requires-clause-apart : goal.apply_edits-requires-clause-apart
apply_edits-requires-clause-apart c = subst IsApart (sym c.edits.ensures.edits) (apart_without_conflict c.args.change.now c.edits.ensures.apart)

pub returns-clause-decided : goal.returns-clause-decided
returns-clause-decided c = IfOk-weaker c.apply_edits.result _ _ (λ _ decided. decided_view c.self.inside.files c.apply_edits.new.files c.args.self.now c.args.change.now _ c.self.view_is c.edits.ensures.edits decided) c.apply_edits.ensures.decided

pub returns-clause-tree : goal.returns-clause-tree
returns-clause-tree c = IfOk-weaker c.apply_edits.result _ _ (λ _ decided cs is. files-one-more c.args.self.now _ cs c.args.change.now (view_sorted c.apply_edits.new.files.entries c.apply_edits.ensures.tree.ordered) (decided_view c.self.inside.files c.apply_edits.new.files c.args.self.now c.args.change.now _ c.self.view_is c.edits.ensures.edits decided) is) c.apply_edits.ensures.decided
