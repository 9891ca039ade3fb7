use Rattle.core_model.proofs.Cores.{core_keeps}
use Rattle.core_model.proofs.laws.each_run_keeps_what_is_acknowledged.Goals as goal

pub returns : goal.returns
returns c = core_keeps
