use Rattle.std.proofs.Common.{refl}
use Rattle.repo_machine.proofs.wholes.framed_whole.Goals as goal

pub whole_of-requires : goal.whole_of-requires
whole_of-requires c = (c.args.id, c.args.length, c.args.parts.items, refl)
