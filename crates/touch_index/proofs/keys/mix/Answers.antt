use Rattle.std.proofs.Common.{refl}
use Rattle.touch_index.specs.Keys.{mixed}
use Rattle.touch_index.proofs.keys.mix.Goals as goal

pub returns : goal.returns
unfolding mixed
returns c = refl
