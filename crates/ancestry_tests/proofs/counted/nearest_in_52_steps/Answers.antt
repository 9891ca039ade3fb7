use Rattle.std.proofs.Common.{arith}
use Rattle.ancestry.proofs.Levelled.{length-chain}
use Rattle.ancestry_tests.proofs.counted.nearest_in_52_steps.Goals as goal

pub returns : goal.returns
returns g c =
    let size_a = length-chain c.args.chain.now.parents c.args.a in
    let size_b = length-chain c.args.chain.now.parents c.args.b in
    c.nearest.ensures.cost 13 (omega arith) (omega arith)
