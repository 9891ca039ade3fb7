use Rattle.recovery.proofs.Frames.{makes_exactly}
use Rattle.recovery.proofs.enter.makes_payload.Goals as goal

pub returns-in-Some : goal.returns-in-Some
returns-in-Some c = makes_exactly c.args.judged.now.made c.args.judged.now.frame c.in-Some.frame.now c.payload_in.result.now c.args.payload.now c.eq.result c.in-Some.ensures.frame c.payload_in.ensures c.eq.ensures
