use Rattle.std.proofs.Common.{arith, length}
use Rattle.manifest_model.specs.NodeReading.{deleted_fields}
use Rattle.deleted_node.proofs.Decoded.{deleted_read_exactly}
use Rattle.byte_fields.proofs.Run.{read_to_end}
use Rattle.deleted_node.specs.Parts.{node_of_parts}
use Rattle.deleted_node.proofs.reading.node_of.Goals as goal

pub invariant_of-result : goal.invariant_of-result
invariant_of-result c =
    let bytes = c.args.bytes.now in
    let node = node_of_parts c.in-Ok-default-empty.link c.in-Ok-default-empty.entries in
    let read = read_to_end (length bytes) (deleted_fields bytes) node c.in-Ok-default-empty.field-0-1.now c.in-Ok-default-empty.ensures c.in-Ok-default-empty.len_below in
    record { valid = ((deleted_read_exactly bytes node (λ i. omega (arith, c.type_inv.bytes i))).0 read).0 }
