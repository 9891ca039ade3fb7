-- The entry of a name after a changeset with two parents, joined of what its edits leave of both parents' entries.
--     fs_joined made a b      the one that is there alone, or both where they are the same, or else that of the directory that was made
--     fs_merged made p es a b      of the path p after edits, where the parents had a and b
--     unode_joined new made a b, unode_merged      the same for unodes, where new is the entry of a file that has a new unode
--     unode_made_on past p      the entry of a directory, if one is there
--     unode_entry_on past d n      the entry of a name in the unode of a directory, if that is there
--     unode_entries_on past d      what the entries of a directory's unode are
--     dirs_differ first second d, files_differ first second p      two parents have different unodes of a directory, or of a file
--     parents_of first second d, file_parents_of first second p      the parents of a new manifest, and of a file's new unode, each once
use Rattle.std.specs.Prelude.{ℕ, Bool, true, false, not, ◌&&◌, if◌then◌else◌, List, [], ◌∷◌, ◌++◌, map, bytes_eq, Option, None, Some, option_map}
use Rattle.std.specs.List.{dedup}
use Rattle.sha2.specs.Sha256.{sha256}
use Rattle.byte_fields.specs.Bytes.{Id}
use Rattle.changeset_model.specs.Path.{Path, text_of}
use Rattle.changeset_model.specs.Changeset.{File, FileChange}
use Rattle.history_model.specs.Past.{Past}
use Rattle.history_model.specs.Tree.{files_in, is_file, below, children}
use Rattle.manifest_model.specs.Fsnode.{FsEntry, FsFile, FsDir}
use Rattle.manifest_model.specs.Unode.{UnodeEntry, UnodeFile, UnodeDir, FileUnode, unode_entry, unode_id}
use Rattle.manifest_model.specs.Merged.{unode_at}
use Rattle.manifest_laws.specs.Entries.{unode_entry_at}
use Rattle.manifest_laws.specs.EntryEdits.{after_edits, fs_entry_after, is_unode_file, file_parents}
use Rattle.merge_laws.specs.Resolved.{has_dir}

-- ---- fsnodes

-- of one path: files of both parents that a changeset leaves are equal, and directories are where their ids are
abbrev pub fs_same : FsEntry → FsEntry → Bool
fs_same (FsFile f) (FsFile g) = true
fs_same (FsFile f) (FsDir y t) = false
fs_same (FsDir x s) (FsFile g) = false
fs_same (FsDir x s) (FsDir y t) = bytes_eq x y

abbrev pub fs_joined : (made a b : Option FsEntry) → Option FsEntry
fs_joined made None b = b
fs_joined made (Some a) None = Some a
fs_joined made (Some a) (Some b) = if fs_same a b then Some a else made

abbrev pub fs_merged : Option FsEntry → Path → List (Path × FileChange) → (a b : Option FsEntry) → Option FsEntry
fs_merged made p es a b = fs_joined made (fs_entry_after made p es a) (fs_entry_after made p es b)

-- both are directories, and not one
abbrev pub fs_differ : (a b : Option FsEntry) → Bool
fs_differ (Some (FsDir x s)) (Some (FsDir y t)) = if bytes_eq x y then false else true
fs_differ (Some (FsDir x s)) (Some (FsFile g)) = false
fs_differ (Some (FsDir x s)) None = false
fs_differ (Some (FsFile f)) b = false
fs_differ None b = false

-- ---- unodes

abbrev pub unode_joined : (new made a b : Option UnodeEntry) → Option UnodeEntry
unode_joined new made None b = b
unode_joined new made (Some a) None = Some a
unode_joined new made (Some (UnodeFile x)) (Some (UnodeFile y)) = if bytes_eq x y then Some (UnodeFile x) else new
unode_joined new made (Some (UnodeFile x)) (Some (UnodeDir y)) = Some (UnodeFile x)
unode_joined new made (Some (UnodeDir x)) (Some (UnodeFile y)) = Some (UnodeDir x)
unode_joined new made (Some (UnodeDir x)) (Some (UnodeDir y)) = if bytes_eq x y then Some (UnodeDir x) else made

-- the parents of a file's new unode, from both parents' entries, each once
abbrev pub both_parents : (a b : Option UnodeEntry) → List Id
both_parents a b = dedup bytes_eq (file_parents a ++ file_parents b)

-- of the path p with this file, at the changeset x
abbrev pub new_file : Id → Path → (a b : Option UnodeEntry) → File → UnodeEntry
new_file x p a b f = UnodeFile (unode_id (FileUnode (both_parents a b) f.content f.kind (sha256 (text_of p)) x))

-- A file that is set has its new unode whichever entry is looked at. One that both parents have with different unodes has a new one too.
abbrev pub unode_merged : Id → (now : Option File) → (made : Option UnodeEntry) → Path → List (Path × FileChange) → (a b : Option UnodeEntry) → Option UnodeEntry
unode_merged x now made p es a b = unode_joined (option_map (new_file x p a b) now) made
    (after_edits (λ _ f. new_file x p a b f) made is_unode_file p es a)
    (after_edits (λ _ f. new_file x p a b f) made is_unode_file p es b)

abbrev pub unode_differ : (a b : Option UnodeEntry) → Bool
unode_differ (Some (UnodeDir x)) (Some (UnodeDir y)) = if bytes_eq x y then false else true
unode_differ (Some (UnodeDir x)) (Some (UnodeFile y)) = false
unode_differ (Some (UnodeDir x)) None = false
unode_differ (Some (UnodeFile x)) b = false
unode_differ None b = false

abbrev pub unode_made_on : Past → Path → Option UnodeEntry
unode_made_on past p = if has_dir past p then Some (UnodeDir (unode_id (unode_at past p))) else None

abbrev pub unode_entry_on : Past → Path → List ℕ → Option UnodeEntry
unode_entry_on past d n = if has_dir past d then unode_entry_at (unode_at past d) n else None

-- each name of a directory with the id of the unode there
abbrev pub unode_entries_on : Past → Path → List (List ℕ × UnodeEntry)
unode_entries_on past d = map (λ child. (child.0, unode_entry child.1 (unode_id (unode_at past (d ++ child.0 ∷ []))))) (children (below d (files_in past)))

-- two parents have different nodes at a directory, or at a file
abbrev pub dirs_differ : (first second : Past) → Path → Bool
dirs_differ first second d = has_dir first d && (has_dir second d && not (bytes_eq (unode_id (unode_at first d)) (unode_id (unode_at second d))))

abbrev pub files_differ : (first second : Past) → Path → Bool
files_differ first second p = is_file (files_in first) p && (is_file (files_in second) p && not (bytes_eq (unode_id (unode_at first p)) (unode_id (unode_at second p))))

abbrev pub parent_on : Past → Path → List Id
parent_on past d = if has_dir past d then unode_id (unode_at past d) ∷ [] else []

abbrev pub parents_of : (first second : Past) → Path → List Id
parents_of first second d = dedup bytes_eq (parent_on first d ++ parent_on second d)

abbrev pub file_parents_of : (first second : Past) → Path → List Id
file_parents_of first second p = dedup bytes_eq ((if is_file (files_in first) p then unode_id (unode_at first p) ∷ [] else []) ++ (if is_file (files_in second) p then unode_id (unode_at second p) ∷ [] else []))
