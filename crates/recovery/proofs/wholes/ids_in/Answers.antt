use Rattle.std.proofs.Common.{◌-◌, length, drop, arith}
use Rattle.std.proofs.lemmas.List.{length-drop, take_all}
use Rattle.recovery.proofs.wholes.ids_in.Goals as goal

pub returns : goal.returns
returns c = let rest = length-drop 43 c.args.payload.now in take_all (length c.args.payload.now - 43) (drop 43 c.args.payload.now) (omega arith)
