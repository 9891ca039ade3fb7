use Rattle.repo_state.proofs.Crashing.{sealed_outlasts}
use Rattle.repo_state.proofs.laws.what_is_sealed_outlasts_a_crash.Goals as goal

pub returns : goal.returns
returns c = sealed_outlasts
