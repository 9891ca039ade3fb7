use Rattle.repo_machine.proofs.Granting.{legal_same}
use Rattle.repo_machine.proofs.machine.Machine.enter_replayed.Goals as goal

pub returns-in_err-make_room-clause-legal : goal.returns-in_err-make_room-clause-legal
returns-in_err-make_room-clause-legal c = legal_same c.args.self.now.header c.make_room.new.self.header c.args.self.now.history c.make_room.new.self.history c.requires.legal c.make_room.ensures.header c.make_room.ensures.history
