use Rattle.std.proofs.Common.{length, ap, arith}
use Rattle.repo_machine.proofs.Framing.{untold_is}
use Rattle.repo_machine.proofs.frame.Frame.untold.Goals as goal

pub returns : goal.returns
returns c = λ payload frames count.
    untold_is c.args.caller.now payload c.args.bytes.items _ _ _ frames (let name = ap length c.as_str.ensures.text in omega arith) count c.put_length.ensures
