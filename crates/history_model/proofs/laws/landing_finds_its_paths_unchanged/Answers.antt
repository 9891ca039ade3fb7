use Rattle.history_model.proofs.Touched.{unchanged_since_root}
use Rattle.history_model.proofs.laws.landing_finds_its_paths_unchanged.Goals as goal

pub returns : goal.returns
returns c = unchanged_since_root
