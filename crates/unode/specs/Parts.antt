-- How contracts see the parts of a unode.
--     parents_seen p      the parents, at most two;  entry_seen e, child_seen c, children_seen cs      an entry, an entry with its name, and a list of these
--     file_seen f      the unode of a file;  manifest_of_parts parents linknode children      the unode of a directory
use Rattle.std.specs.Prelude.{ℕ, List, [], ◌∷◌, map}
use Rattle.std.specs.Global.{Vec}
use Rattle.byte_fields.specs.Bytes.{Id}
use Rattle.manifest_model.specs.Unode.{Unode, Manifest, FileUnode, UnodeEntry, UnodeFile, UnodeDir}
use Rattle.bonsai.specs.Kinds.{kind_view}
use Rattle.unode.specs.declared.entry.UnodeEntry.{UnodeEntry as RustEntry}
use Rattle.unode.specs.declared.entry.UnodeEntry.TheVariants as entries
use Rattle.node_fields.specs.declared.child.Child.{Child}
use Rattle.unode.specs.declared.parents.Parents.{Parents}
use Rattle.unode.specs.declared.parents.Parents.TheVariants as parents
use Rattle.unode.specs.declared.file.FileUnode.{FileUnode as RustFile}

abbrev pub parents_seen : Parents → List Id
parents_seen parents.Absent = []
parents_seen (parents.One x) = x ∷ []
parents_seen (parents.Two x y) = x ∷ y ∷ []

abbrev pub entry_seen : RustEntry → UnodeEntry
entry_seen (entries.File id) = UnodeFile id
entry_seen (entries.Directory id) = UnodeDir id

abbrev pub child_seen : Child RustEntry → List ℕ × UnodeEntry
child_seen c = (c.name, entry_seen c.entry)

abbrev pub children_seen : List (Child RustEntry) → List (List ℕ × UnodeEntry)
children_seen cs = map child_seen cs

abbrev pub manifest_of_parts : Parents → Id → Vec (Child RustEntry) → Unode
manifest_of_parts parents linknode children = Manifest (parents_seen parents) linknode (children_seen children.items)

abbrev pub file_seen : RustFile → Unode
file_seen f = FileUnode (parents_seen f.parents) f.content (kind_view f.kind) f.path_hash f.linknode
