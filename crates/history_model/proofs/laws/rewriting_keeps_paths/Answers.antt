use Rattle.history_model.proofs.Trees.{touched_paths-rewrite}
use Rattle.history_model.proofs.laws.rewriting_keeps_paths.Goals as goal

pub returns : goal.returns
returns c = touched_paths-rewrite
