-- How contracts see a deleted node.
--     deleted_seen n      its link and its entries
use Rattle.manifest_model.specs.Deleted.{DeletedNode}
use Rattle.deleted_node.specs.declared.node.DeletedNode.{DeletedNode as RustNode}
use Rattle.deleted_node.specs.Parts.{node_of_parts}

abbrev pub deleted_seen : RustNode → DeletedNode
deleted_seen n = node_of_parts n.link n.entries
