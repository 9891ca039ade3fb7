use Rattle.std.proofs.Common.{refl}
use Rattle.follower.proofs.Placed.{whole_at}
use Rattle.follower.proofs.placing.place.Goals as goal

pub returns-in-Whole-clause-placed : goal.returns-in-Whole-clause-placed
returns-in-Whole-clause-placed c = whole_at c.args.limit c.args.bytes.now c.in-Whole.reply _ c.in-Whole.ensures.whole refl refl refl refl
