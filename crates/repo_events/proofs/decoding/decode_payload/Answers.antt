use Rattle.std.proofs.Common.{arith}
use Rattle.repo_events.proofs.Decoded.{payload_of, length_of, counted_of, parted_of}
use Rattle.repo_events.proofs.decoding.decode_payload.Goals as goal

pub returns-clause-spelled : goal.returns-clause-spelled
returns-clause-spelled c = payload_of c.args.bytes.now c.read_all.result (λ i. omega (arith, c.type_inv.bytes i)) c.read_all.ensures

pub returns-clause-measured : goal.returns-clause-measured
returns-clause-measured c = length_of c.args.bytes.now c.read_all.result (λ i. omega (arith, c.type_inv.bytes i)) c.read_all.ensures

pub returns-clause-counted : goal.returns-clause-counted
returns-clause-counted c = counted_of c.args.bytes.now c.read_all.result (λ i. omega (arith, c.type_inv.bytes i)) c.read_all.ensures

pub returns-clause-parted : goal.returns-clause-parted
returns-clause-parted c = parted_of c.args.bytes.now c.read_all.result (λ i. omega (arith, c.type_inv.bytes i)) c.read_all.ensures
