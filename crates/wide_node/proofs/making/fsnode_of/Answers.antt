use Rattle.manifest_model.specs.NodeReading.{fs_entry}
use Rattle.fsnode.specs.Lookup.{entry_count as fs_count}
use Rattle.wide_node.proofs.Fronts.{behind_of, is_whole}
use Rattle.wide_node.proofs.Onward.{on_fs_count, on_fs_entry}
use Rattle.wide_node.proofs.making.fsnode_of.Goals as goal

pub parts_of-requires : goal.parts_of-requires
parts_of-requires c = on_fs_entry

pub invariant_of-result : goal.invariant_of-result
invariant_of-result c =
    behind_of fs_count fs_entry on_fs_count c.args.count c.args.bytes.now c.args.entries.now c.in_ok-front.front.items c.in-Some.parts.items c.requires c.in_ok-front.ensures (rw c.in-Some.is at c.in_ok-parts.ensures.are)

pub returns : goal.returns
returns c =
    is_whole fs_count fs_entry on_fs_count c.args.count c.args.bytes.now c.args.entries.now c.in_ok-front.front.items c.in-Some.parts.items c.requires c.in_ok-front.ensures (rw c.in-Some.is at c.in_ok-parts.ensures.joined)
