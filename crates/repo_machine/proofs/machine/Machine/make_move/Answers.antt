use Rattle.std.proofs.Common.{refl}
use Rattle.repo_events.specs.Entries.{move_of}
use Rattle.repo_machine.proofs.machine.Machine.make_move.Goals as goal

pub move_made-requires : goal.move_made-requires
move_made-requires c = (move_of c.args.movement, refl)
