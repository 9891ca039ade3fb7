use Rattle.byte_fields.specs.Reading.{id}
use Rattle.deleted_node.specs.Lookup.{entry_count as deleted_count}
use Rattle.wide_node.proofs.Fronts.{behind_of, is_whole}
use Rattle.wide_node.proofs.Onward.{on_deleted_count, on_id}
use Rattle.wide_node.proofs.making.deleted_of.Goals as goal

pub parts_of-requires : goal.parts_of-requires
parts_of-requires c = on_id

pub invariant_of-result : goal.invariant_of-result
invariant_of-result c =
    behind_of deleted_count id on_deleted_count c.args.count c.args.bytes.now c.args.entries.now c.in_ok-front.front.items c.in-Some.parts.items c.requires c.in_ok-front.ensures (rw c.in-Some.is at c.in_ok-parts.ensures.are)

pub returns : goal.returns
returns c =
    is_whole deleted_count id on_deleted_count c.args.count c.args.bytes.now c.args.entries.now c.in_ok-front.front.items c.in-Some.parts.items c.requires c.in_ok-front.ensures (rw c.in-Some.is at c.in_ok-parts.ensures.joined)
