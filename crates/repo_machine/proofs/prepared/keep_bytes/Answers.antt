use Rattle.std.proofs.Common.{arith}
use Rattle.repo_machine.proofs.Judging.{are_bytes-from}
use Rattle.repo_machine.proofs.prepared.keep_bytes.Goals as goal

pub returns : goal.returns
returns c = are_bytes-from c.args.bytes.now (λ i. omega (arith, c.type_inv.bytes i))
