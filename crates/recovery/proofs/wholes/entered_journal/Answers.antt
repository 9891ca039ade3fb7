use Rattle.std.proofs.Common.{arith}
use Rattle.recovery.proofs.Gates.{room_of}
use Rattle.recovery.proofs.wholes.entered_journal.Goals as goal

pub new-requires-clause-fits : goal.new-requires-clause-fits
new-requires-clause-fits c =
    let room = room_of c.args.machine.now.header c.args.machine.now.history c.requires.limits c.requires.legal in
    let fits = room.0 in
    let most = room.1 in
    let size = c.size.ensures in
    omega arith
