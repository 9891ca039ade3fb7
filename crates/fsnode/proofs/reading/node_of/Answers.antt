use Rattle.std.proofs.Common.{arith, length}
use Rattle.manifest_model.specs.NodeReading.{fsnode_fields}
use Rattle.manifest_model.proofs.Decoded.{fsnode_read_exactly}
use Rattle.byte_fields.proofs.Run.{read_to_end}
use Rattle.fsnode.specs.Parts.{fsnode_of_parts}
use Rattle.fsnode.proofs.reading.node_of.Goals as goal

pub invariant_of-result : goal.invariant_of-result
invariant_of-result c =
    let bytes = c.args.bytes.now in
    let node = fsnode_of_parts c.in-Ok-default-empty.summary c.in-Ok-default-empty.entries in
    let read = read_to_end (length bytes) (fsnode_fields bytes) node c.in-Ok-default-empty.field-0-1.now c.in-Ok-default-empty.ensures c.in-Ok-default-empty.len_below in
    record { valid = ((fsnode_read_exactly bytes node (λ i. omega (arith, c.type_inv.bytes i))).0 read).0 }
