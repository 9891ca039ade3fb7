use Rattle.manifest_model.proofs.Deletions.{deletion_found}
use Rattle.manifest_model.proofs.laws.deletions_are_by_their_paths.Goals as goal

pub returns : goal.returns
returns c = deletion_found
