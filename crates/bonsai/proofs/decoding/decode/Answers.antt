use Rattle.std.proofs.Common.{arith}
use Rattle.bonsai.proofs.AllRead.{accepts, is_accepted}
use Rattle.bonsai.proofs.decoding.decode.Goals as goal

pub returns-clause-accepted : goal.returns-clause-accepted
returns-clause-accepted c = is_accepted c.args.bytes.now c.decode_short.result (λ i. omega (arith, c.type_inv.bytes i)) c.decode_short.ensures

pub returns-clause-again : goal.returns-clause-again
returns-clause-again c = λ m short spelled none. accepts c.args.bytes.now m c.decode_short.result (λ i. omega (arith, c.type_inv.bytes i)) short spelled none c.decode_short.ensures
