use Rattle.repo_state.proofs.Crashing.{crashes_of}
use Rattle.repo_state.proofs.laws.a_crash_of_the_file_is_one_of_the_core.Goals as goal

pub returns : goal.returns
returns c = crashes_of
