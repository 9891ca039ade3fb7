use Rattle.run_gen.proofs.Own.{went_lands}
use Rattle.run_gen.proofs.laws.landings_of_calls.Goals as goal

pub returns : goal.returns
returns c header who from calls to w = went_lands header who from calls to w
