-- The entries of a touched directory, of both kinds of nodes.
--     fs_made_in m p, unode_made_in m p      the entry of a directory that was made
--     fs_before node n, unode_before node n      the entry of a name in the node of a directory, if it was there
--     fsnodes_before first second n, unodes_before first second n      the same of both parents
--     fs_after made d es o n, unode_after x made d es o n      the entries of a name of the directory d after edits, of the changeset x
--     fs_join made a b, unode_join x p now made a b      what the entries of both parents are joined to, where now is the file there
--     is_dir_id x e      an entry is the directory's whose fsnode has this id
--     set_unode x p s f      the unode of a file that the changeset x sets at the path p, from the entries before;  own_unode x p s f      the nodes that it has
--     set_nodes x made d es o      the unodes of the files that edits set directly in the directory d, where o gives the entries before
--     file_now es n      the file of a name among the entries of an fsnode
--     new_at x p now a b, joined_unode x p now a b      the entry of a file of which both parents have different unodes, and the nodes that it has
use Rattle.std.specs.Prelude.{ℕ, Bool, false, if◌then◌else◌, List, [], ◌∷◌, bytes_eq, Option, None, Some, option_map}
use Rattle.std.specs.BTreeMap.{BTreeMap}
use Rattle.std.specs.Ordering.{nat_cmp}
use Rattle.std.specs.Cmp.Lexicographic.{slice_cmp}
use Rattle.std.specs.FinMap.{find as find_key}
use Rattle.sha2.specs.Sha256.{sha256}
use Rattle.byte_fields.specs.Bytes.{Id}
use Rattle.changeset_model.specs.Path.{Path, text_of, is_path}
use Rattle.changeset_model.specs.Changeset.{File, FileChange}
use Rattle.manifest_model.specs.Fsnode.{FsEntry, FsFile, FsDir, Fsnode}
use Rattle.manifest_model.specs.Unode.{Unode, FileUnode, UnodeEntry, UnodeFile, UnodeDir, unode_bytes}
use Rattle.manifest_laws.specs.Entries.{file_of_entry, fs_entry_at, unode_entry_at}
use Rattle.manifest_laws.specs.EntryEdits.{is_fs_file, is_unode_file}
use Rattle.merge_laws.specs.Joined.{both_parents, fs_joined, new_file, unode_joined}
use Rattle.fsnode.specs.Parts.{entry_seen as fs_entry_seen}
use Rattle.unode.specs.Parts.{entry_seen as unode_entry_seen}
use Rattle.derive_step.specs.declared.made.Made.{Made}
use Rattle.derive_step.specs.Walk.{Sides, made_in, after, all_nodes}

-- ---- fsnodes

abbrev pub fs_made_in : BTreeMap Path Made → Path → Option FsEntry
fs_made_in m p = made_in (λ x. fs_entry_seen x.fsnode) m p

abbrev pub fs_before : Option Fsnode → List ℕ → Option FsEntry
fs_before None n = None
fs_before (Some node) n = fs_entry_at node n

abbrev pub fsnodes_before : (first second : Option Fsnode) → List ℕ → Sides FsEntry
fsnodes_before first second n = (fs_before first n, fs_before second n)

abbrev pub fs_set : Path → Sides FsEntry → File → FsEntry
fs_set p s f = FsFile f

abbrev pub fs_after : BTreeMap Path Made → Path → List (Path × FileChange) → (List ℕ → Sides FsEntry) → List ℕ → Sides FsEntry
fs_after made d es o n = after fs_set (fs_made_in made) is_fs_file d es o n

abbrev pub fs_join : (made : Option FsEntry) → (a b : FsEntry) → Option FsEntry
fs_join made a b = fs_joined made (Some a) (Some b)

-- a directory's entry with this id
abbrev pub is_dir_id : Id → FsEntry → Bool
is_dir_id x (FsFile f) = false
is_dir_id x (FsDir y s) = bytes_eq x y

-- ---- unodes

abbrev pub unode_made_in : BTreeMap Path Made → Path → Option UnodeEntry
unode_made_in m p = made_in (λ x. unode_entry_seen x.unode) m p

abbrev pub unode_before : Option Unode → List ℕ → Option UnodeEntry
unode_before None n = None
unode_before (Some node) n = unode_entry_at node n

abbrev pub unodes_before : (first second : Option Unode) → List ℕ → Sides UnodeEntry
unodes_before first second n = (unode_before first n, unode_before second n)

abbrev pub unode_set : Id → Path → Sides UnodeEntry → File → UnodeEntry
unode_set x p s f = new_file x p s.0 s.1 f

abbrev pub unode_after : Id → BTreeMap Path Made → Path → List (Path × FileChange) → (List ℕ → Sides UnodeEntry) → List ℕ → Sides UnodeEntry
unode_after x made d es o n = after (unode_set x) (unode_made_in made) is_unode_file d es o n

abbrev pub file_now : List (List ℕ × FsEntry) → List ℕ → Option File
file_now es n = file_of_entry (find_key (slice_cmp nat_cmp) n es)

-- at a path that may stand in a changeset
abbrev pub new_at : Id → Path → Option File → (a b : UnodeEntry) → Option UnodeEntry
new_at x p now a b = if is_path p then option_map (new_file x p (Some a) (Some b)) now else None

abbrev pub unode_join : Id → Path → (now : Option File) → (made : Option UnodeEntry) → (a b : UnodeEntry) → Option UnodeEntry
unode_join x p now made a b = unode_joined (new_at x p now a b) made (Some a) (Some b)

-- ---- the unodes of files

abbrev pub set_unode : Id → Path → Sides UnodeEntry → File → Unode
set_unode x p s f = FileUnode (both_parents s.0 s.1) f.content f.kind (sha256 (text_of p)) x

abbrev pub own_unode : Id → Path → Sides UnodeEntry → File → List (List ℕ)
own_unode x p s f = unode_bytes (set_unode x p s f) ∷ []

abbrev pub set_nodes : Id → BTreeMap Path Made → Path → List (Path × FileChange) → (List ℕ → Sides UnodeEntry) → List (List ℕ)
set_nodes x made d es o = all_nodes (unode_set x) (unode_made_in made) is_unode_file (own_unode x) d es o

abbrev pub own_now : Id → Path → Option File → Sides UnodeEntry → List (List ℕ)
own_now x p None s = []
own_now x p (Some f) s = if is_path p then own_unode x p s f else []

-- of files that both parents have with different unodes
abbrev pub joined_unode : Id → Path → Option File → (a b : UnodeEntry) → List (List ℕ)
joined_unode x p now (UnodeFile a) (UnodeFile b) = if bytes_eq a b then [] else own_now x p now (Some (UnodeFile a), Some (UnodeFile b))
joined_unode x p now (UnodeFile a) (UnodeDir b) = []
joined_unode x p now (UnodeDir a) (UnodeFile b) = []
joined_unode x p now (UnodeDir a) (UnodeDir b) = []
