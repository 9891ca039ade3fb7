-- What is read of the nodes of a table.
--     bytes_seen b      the bytes that were read
--     fs_entry_in m id n, unode_entry_in m id n, deleted_entry_in m id n      the entry of a name in the node of an id, found in its bytes
--     file_unode_in m id, deleted_link_in m id      the node of an id as the unode of a file;  the link in it as a deleted node
use Rattle.std.specs.Prelude.{ℕ, List, Option}
use Rattle.std.specs.Option.{option_and_then}
use Rattle.std.specs.FinMap as map
use Rattle.byte_fields.specs.Bytes.{Id}
use Rattle.manifest_model.specs.Fsnode.{FsEntry}
use Rattle.manifest_model.specs.Unode.{Unode, UnodeEntry}
use Rattle.manifest_model.specs.NodeReading.{unode_of}
use Rattle.fsnode.specs.Lookup.{entry_named as fs_named}
use Rattle.unode.specs.Lookup.{entry_named as unode_named}
use Rattle.unode.specs.Views.{file_in}
use Rattle.deleted_node.specs.Lookup.{entry_named as deleted_named, link_in as link_of}
use Rattle.node_table.specs.Table.{Nodes}
use Rattle.node_table.specs.declared.bytes.NodeBytes.{NodeBytes}
use Rattle.node_table.specs.declared.bytes.NodeBytes.TheVariants.{Lent, Joined}

abbrev pub bytes_seen : NodeBytes → List ℕ
bytes_seen (Lent bytes) = bytes.now
bytes_seen (Joined bytes) = bytes.items

abbrev pub fs_entry_in : Nodes → Id → List ℕ → Option FsEntry
fs_entry_in m x n = option_and_then (λ bytes. fs_named bytes n) (map.get m x)

abbrev pub unode_entry_in : Nodes → Id → List ℕ → Option UnodeEntry
unode_entry_in m x n = option_and_then (λ bytes. unode_named bytes n) (map.get m x)

abbrev pub deleted_entry_in : Nodes → Id → List ℕ → Option Id
deleted_entry_in m x n = option_and_then (λ bytes. deleted_named bytes n) (map.get m x)

abbrev pub file_unode_in : Nodes → Id → Option Unode
file_unode_in m x = option_and_then (λ bytes. file_in (unode_of bytes)) (map.get m x)

abbrev pub deleted_link_in : Nodes → Id → Option Id
deleted_link_in m x = option_and_then link_of (map.get m x)
