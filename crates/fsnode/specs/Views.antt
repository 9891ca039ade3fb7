-- How contracts see an fsnode.
--     fsnode_seen n      its summary and its entries
use Rattle.manifest_model.specs.Fsnode.{Fsnode}
use Rattle.fsnode.specs.declared.node.Fsnode.{Fsnode as RustFsnode}
use Rattle.fsnode.specs.Parts.{fsnode_of_parts}

abbrev pub fsnode_seen : RustFsnode → Fsnode
fsnode_seen n = fsnode_of_parts n.summary n.entries
