use Rattle.manifest_model.specs.NodeReading.{one_unode_entry}
use Rattle.unode.specs.Lookup.{entry_count as unode_count}
use Rattle.wide_node.proofs.Fronts.{behind_of, is_whole}
use Rattle.wide_node.proofs.Onward.{on_unode_count, on_unode_entry}
use Rattle.wide_node.proofs.making.unode_of.Goals as goal

pub parts_of-requires : goal.parts_of-requires
parts_of-requires c = on_unode_entry

pub invariant_of-result : goal.invariant_of-result
invariant_of-result c =
    behind_of unode_count one_unode_entry on_unode_count c.args.count c.args.bytes.now c.args.entries.now c.in_ok-front.front.items c.in-Some.parts.items c.requires c.in_ok-front.ensures (rw c.in-Some.is at c.in_ok-parts.ensures.are)

pub returns : goal.returns
returns c =
    is_whole unode_count one_unode_entry on_unode_count c.args.count c.args.bytes.now c.args.entries.now c.in_ok-front.front.items c.in-Some.parts.items c.requires c.in_ok-front.ensures (rw c.in-Some.is at c.in_ok-parts.ensures.joined)
