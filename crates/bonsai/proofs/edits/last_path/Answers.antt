use Rattle.bonsai.proofs.Run.{last_path_is}
use Rattle.bonsai.proofs.edits.last_path.Goals as goal

pub returns-in-Some : goal.returns-in-Some
returns-in-Some c = last_path_is c.args.edits.now c.in-Some.edit.now c.in-Some.ensures.value
