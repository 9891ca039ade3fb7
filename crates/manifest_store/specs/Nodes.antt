-- What stands in a table under the ids of nodes, whatever the table has. What can't be read as a node of its kind isn't there.
--     fsnode_under m x, manifest_under m x, file_under m x      the fsnode, the unode of a directory, and that of a file, under an id
--     entry_of e, entry_id e      an entry of an fsnode as a file's or a directory's;  the id in such an entry
--     fs_entry_under m x n, unode_entry_under m x n      the entry of a name, found in the bytes of the fsnode and of the unode of a directory
--     walk look e p      the entry of a path from an entry on, where look gives those of names in directories by their ids
--     dir_ids r      the ids of the root's fsnode and unode
--     dir_under m r      both nodes of a directory by their ids
--     deleted_entry_under m x n      the id under a name, found in the bytes of a deleted node, as an entry
--     child_under m b n, dir_from m b d      those of a directory in it, and of one at any depth
use Rattle.std.specs.Prelude.{ℕ, List, [], ◌∷◌, Option, None, Some, option_map}
use Rattle.std.specs.Option.{option_and_then}
use Rattle.std.specs.Result.{result_ok}
use Rattle.std.specs.FinMap as map
use Rattle.byte_fields.specs.Bytes.{Id}
use Rattle.changeset_model.specs.Path.{Path}
use Rattle.manifest_model.specs.Fsnode.{FsEntry, FsFile, FsDir, Fsnode}
use Rattle.manifest_model.specs.Unode.{Unode, Manifest, FileUnode, UnodeEntry, UnodeFile, UnodeDir}
use Rattle.manifest_model.specs.NodeReading.{fsnode_of, unode_of}
use Rattle.manifest_laws.specs.Entries.{fs_entry_at, unode_entry_at}
use Rattle.fsnode.specs.Lookup.{entry_named as fs_named}
use Rattle.unode.specs.Lookup.{entry_named as unode_named}
use Rattle.deleted_node.specs.Lookup.{entry_named as deleted_named}
use Rattle.unode.specs.Views.{file_in}
use Rattle.node_table.specs.Table.{Nodes}
use Rattle.node_table.specs.declared.roots.Roots.{Roots}
use Rattle.derive_step.specs.declared.job.DirIds.{DirIds}
use Rattle.derive_step.specs.Views.{Before}

abbrev pub fsnode_under : Nodes → Id → Option Fsnode
fsnode_under m x = option_and_then (λ bytes. result_ok (fsnode_of bytes)) (map.get m x)

abbrev pub manifest_of : Unode → Option Unode
manifest_of (Manifest parents linknode entries) = Some (Manifest parents linknode entries)
manifest_of (FileUnode parents content kind path_hash linknode) = None

abbrev pub manifest_under : Nodes → Id → Option Unode
manifest_under m x = option_and_then (λ bytes. option_and_then manifest_of (result_ok (unode_of bytes))) (map.get m x)

abbrev pub file_under : Nodes → Id → Option Unode
file_under m x = option_and_then (λ bytes. file_in (unode_of bytes)) (map.get m x)

-- ---- by paths

abbrev pub entry_of : FsEntry → UnodeEntry
entry_of (FsFile f) = UnodeFile f.content
entry_of (FsDir x s) = UnodeDir x

abbrev pub entry_id : UnodeEntry → Id
entry_id (UnodeFile x) = x
entry_id (UnodeDir x) = x

abbrev pub fs_entry_under : Nodes → Id → List ℕ → Option UnodeEntry
fs_entry_under m x n = option_and_then (λ bytes. option_map entry_of (fs_named bytes n)) (map.get m x)

abbrev pub unode_entry_under : Nodes → Id → List ℕ → Option UnodeEntry
unode_entry_under m x n = option_and_then (λ bytes. unode_named bytes n) (map.get m x)

abbrev pub deleted_entry_under : Nodes → Id → List ℕ → Option UnodeEntry
deleted_entry_under m x n = option_and_then (λ bytes. option_map UnodeDir (deleted_named bytes n)) (map.get m x)

abbrev pub walk : (Id → List ℕ → Option UnodeEntry) → UnodeEntry → Path → Option UnodeEntry
walk look e [] = Some e
walk look (UnodeFile x) (n ∷ p) = None
walk look (UnodeDir x) (n ∷ p) = option_and_then (λ e. walk look e p) (look x n)

-- ---- both nodes of a directory

abbrev pub dir_ids : Roots → DirIds
dir_ids r = record { fsnode = r.fsnode; unode = r.unode }

abbrev pub dir_under : Nodes → DirIds → Option Before
dir_under m r = option_and_then (λ fsnode. option_map (λ unode. record { fsnode = fsnode; unode = unode; unode_id = r.unode }) (manifest_under m r.unode)) (fsnode_under m r.fsnode)

abbrev pub both_dirs : Option FsEntry → Option UnodeEntry → Option DirIds
both_dirs None o = None
both_dirs (Some (FsFile f)) o = None
both_dirs (Some (FsDir x s)) None = None
both_dirs (Some (FsDir x s)) (Some (UnodeFile y)) = None
both_dirs (Some (FsDir x s)) (Some (UnodeDir y)) = Some (record { fsnode = x; unode = y })

abbrev pub child_ids : Before → List ℕ → Option DirIds
child_ids b n = both_dirs (fs_entry_at b.fsnode n) (unode_entry_at b.unode n)

abbrev pub child_under : Nodes → Before → List ℕ → Option Before
child_under m b n = option_and_then (dir_under m) (child_ids b n)

abbrev pub dir_from : Nodes → Before → Path → Option Before
dir_from m b [] = Some b
dir_from m b (n ∷ d) = option_and_then (λ c. dir_from m c d) (child_under m b n)
