use Rattle.changeset_model.proofs.Paths.{path_lt_or}
use Rattle.changeset_model.proofs.laws.paths_are_ordered.Goals as goal

pub returns : goal.returns
returns c = path_lt_or
