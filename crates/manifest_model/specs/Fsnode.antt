-- Fsnodes: a directory's manifest, which is one for equal directories.
--     fsnode_bytes n      its spelling, whose SHA-256 (FIPS 180-4) is its id;  is_fsnode n      the rules of its fields
--     fsnode files d      the fsnode of a directory of these files
use Rattle.std.specs.Prelude.{ℕ, zero, suc, ◌^◌, Bool, ◌&&◌, ◌==◌, nat_lt, List, [], ◌∷◌, ◌++◌, length, map, filter, sum_by, count_by, flat_map, is_none}
use Rattle.std.specs.List.{concat, list_all}
use Rattle.std.specs.Option.{option_map_or}
use Rattle.std.specs.Ordering.{nat_cmp}
use Rattle.std.specs.Cmp.Lexicographic.{slice_cmp}
use Rattle.std.specs.FinMap.{is_sorted}
use Rattle.std.specs.Int.{w8, w32, w64, to_be_bytes}
use Rattle.sha2.specs.Sha256.{sha256}
use Rattle.byte_fields.specs.Bytes.{Id, sized, is_bytes}
use Rattle.changeset_model.specs.Path.{Path, is_element}
use Rattle.changeset_model.specs.Changeset.{File, file_bytes}
use Rattle.history_model.specs.Tree.{below, children, depth}

-- of the files and directories directly in a directory, and of all the files below it
pub record Summary : Type 0 where
  pub child_files_count : ℕ
  pub child_files_total_size : ℕ
  pub child_dirs_count : ℕ
  pub descendant_files_count : ℕ
  pub descendant_files_total_size : ℕ

pub data FsEntry : Type 0 where
  FsFile : File → FsEntry
  -- the id of the directory's fsnode, and its summary
  FsDir : Id → Summary → FsEntry

pub record Fsnode : Type 0 where
  pub summary : Summary
  pub entries : List (List ℕ × FsEntry)

-- ---- the spelling

abbrev pub summary_bytes : Summary → List ℕ
summary_bytes s = flat_map (to_be_bytes w64) (s.child_files_count ∷ s.child_files_total_size ∷ s.child_dirs_count ∷ s.descendant_files_count ∷ s.descendant_files_total_size ∷ [])

abbrev pub fs_entry_bytes : FsEntry → List ℕ
fs_entry_bytes (FsFile f) = 0 ∷ file_bytes f
fs_entry_bytes (FsDir x s) = 1 ∷ x ++ summary_bytes s

-- the mark `F` and the version 1, the summary, and the entries by rising names
abbrev pub fsnode_bytes : Fsnode → List ℕ
fsnode_bytes n = concat (
    (0x46 ∷ 1 ∷ [])
    ∷ summary_bytes n.summary
    ∷ to_be_bytes w32 (length n.entries)
    ∷ flat_map (λ e. sized w8 e.0 ++ fs_entry_bytes e.1) n.entries
    ∷ [])

abbrev pub fsnode_id : Fsnode → Id
fsnode_id n = sha256 (fsnode_bytes n)

-- names that rise strictly by their bytes
abbrev pub are_entries : {X : Type 0} → List (List ℕ × X) → Bool
are_entries es = nat_lt (length es) (2 ^ 32) && list_all (λ e. is_element e.0) es && is_sorted (slice_cmp nat_cmp) es

abbrev pub is_summary : Summary → Bool
is_summary s = list_all (λ n. nat_lt n (2 ^ 64)) (s.child_files_count ∷ s.child_files_total_size ∷ s.child_dirs_count ∷ s.descendant_files_count ∷ s.descendant_files_total_size ∷ [])

abbrev pub is_fs_entry : FsEntry → Bool
is_fs_entry (FsFile f) = nat_lt f.size (2 ^ 64) && is_bytes 32 f.content
is_fs_entry (FsDir x s) = is_bytes 32 x && is_summary s

abbrev pub is_fsnode : Fsnode → Bool
is_fsnode n = is_summary n.summary && are_entries n.entries && list_all (λ e. is_fs_entry e.1) n.entries

-- ---- the fsnode of a directory

-- files in the directory itself are those of one element
abbrev pub child_files : List (Path × File) → List (Path × File)
child_files files = filter (λ f. length f.0 == 1) files

abbrev pub total_size : List (Path × File) → ℕ
total_size files = sum_by (λ f. f.1.size) files

-- of files by their paths from the directory
abbrev pub summary_of : List (Path × File) → Summary
summary_of files = record {
  child_files_count = length (child_files files);
  child_files_total_size = total_size (child_files files);
  child_dirs_count = count_by (λ child. is_none child.1) (children files);
  descendant_files_count = length files;
  descendant_files_total_size = total_size files;
}

abbrev pub fs_dir : Fsnode → FsEntry
fs_dir n = FsDir (fsnode_id n) n.summary

-- of files by their paths from the directory, of at most this many elements
abbrev pub fsnode_within : ℕ → List (Path × File) → Fsnode
fsnode_within zero files = record { summary = summary_of files; entries = [] }
fsnode_within (suc deep) files = record {
  summary = summary_of files;
  entries = map (λ child. (child.0, option_map_or FsFile child.1 (fs_dir (fsnode_within deep (below (child.0 ∷ []) files))))) (children files);
}

abbrev pub fsnode : List (Path × File) → Path → Fsnode
fsnode files d = fsnode_within (depth files) (below d files)
