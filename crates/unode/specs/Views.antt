-- How contracts see a unode.
--     manifest_seen m, unode_seen n      the unode of a directory, and any unode
--     file_in read      the unode of a file, if that is what was read
use Rattle.std.specs.Prelude.{ℕ, Option, None, Some, Result, Ok, Err}
use Rattle.manifest_model.specs.Unode.{Unode, Manifest, FileUnode}
use Rattle.unode.specs.declared.manifest.UnodeManifest.{UnodeManifest}
use Rattle.unode.specs.declared.node.Unode.{Unode as RustUnode}
use Rattle.unode.specs.declared.node.Unode.TheVariants as nodes
use Rattle.unode.specs.Parts.{manifest_of_parts, file_seen}

abbrev pub manifest_seen : UnodeManifest → Unode
manifest_seen m = manifest_of_parts m.parents m.linknode m.entries

abbrev pub unode_seen : RustUnode → Unode
unode_seen (nodes.Manifest m) = manifest_seen m
unode_seen (nodes.File f) = file_seen f

abbrev pub file_of : Unode → Option Unode
file_of (Manifest parents linknode entries) = None
file_of (FileUnode parents content kind path_hash linknode) = Some (FileUnode parents content kind path_hash linknode)

abbrev pub file_in : Result Unode ℕ → Option Unode
file_in (Ok n) = file_of n
file_in (Err at) = None
