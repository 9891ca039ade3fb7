-- The readers of nodes find their faults at fields.
use Rattle.std.proofs.Common.{ℕ, zero, suc, Bool, true, false, cond, List, [], ◌∷◌}
use Rattle.std.specs.Prelude.{nat_lt, ◌&&◌, ◌||◌, ◌==◌, Option, Some, None}
use Rattle.std.specs.Int.{from_be_bytes, w8, w32, w64}
use Rattle.byte_fields.specs.Reading.{Reader, keeping, number, any}
use Rattle.byte_fields.proofs.Places.{KeepsPlaces, HasSize, IsOnlyCut, keeps_value, keeps_number, keeps_exactly, keeps_id, keeps_then, keeps_last, keeps_times, keeps_with_len, keeps_parts, field_size, number_cut, size_then, size_last, cut_then, cut_last}
use Rattle.changeset_model.specs.Path.{is_element}
use Rattle.changeset_model.specs.Decoding.{kind_of}
use Rattle.changeset_model.proofs.Places.{keeps_file}
use Rattle.history_model.proofs.Places.{keeps_optional}
use Rattle.manifest_model.specs.Fsnode.{Summary, FsFile, FsDir}
use Rattle.manifest_model.specs.Unode.{Manifest, FileUnode}
use Rattle.manifest_model.specs.NodeReading.{is_after_name, entry, entries, summary, fs_entry_of, fs_entry, fsnode_fields, unode_entry_for, one_unode_entry, node_parents, manifest, file_unode, unode_fields, deleted_fields}

keeps_entry : {X : Type 0} {r : Reader X} (c : ℕ) (before : Option (List ℕ)) → KeepsPlaces c r → KeepsPlaces c (entry r before)
keeps_entry c before k =
    keeps_then c (keeps_with_len c w8 (λ n. nat_lt 0 n) (keeping (λ name. is_element name && is_after_name before name))) (λ name. keeps_last c (λ x. (name, x)) k)

keeps_entries : {X : Type 0} {r : Reader X} (c n : ℕ) (before : Option (List ℕ)) → KeepsPlaces c r → KeepsPlaces c (entries r n before)
keeps_entries c zero before k = keeps_value c []
keeps_entries c (suc n) before k = keeps_then c (keeps_entry c before k) (λ e. keeps_last c (λ es. e ∷ es) (keeps_entries c n (Some e.0) k))

-- ---- fsnodes

a_number : KeepsPlaces 0 (number w64 any)
a_number = keeps_number 0 w64 any

number_size : HasSize 8 (number w64 any)
number_size = field_size 8 (λ bytes. keeping any (from_be_bytes w64 bytes))

a_cut : IsOnlyCut 8 (number w64 any)
a_cut = number_cut w64

abbrev made : ℕ → ℕ → ℕ → ℕ → ℕ → Summary
made files size dirs all_files all_size = record { child_files_count = files; child_files_total_size = size; child_dirs_count = dirs; descendant_files_count = all_files; descendant_files_total_size = all_size }

keeps_summary : KeepsPlaces 0 summary
keeps_summary = keeps_parts 0 40
    (keeps_then 0 a_number (λ a. keeps_then 0 a_number (λ b. keeps_then 0 a_number (λ c. keeps_then 0 a_number (λ d. keeps_last 0 (λ e. made a b c d e) a_number)))))
    (size_then 8 32 number_size (λ a. size_then 8 24 number_size (λ b. size_then 8 16 number_size (λ c. size_then 8 8 number_size (λ d. size_last 8 (λ e. made a b c d e) number_size)))))
    (cut_then 8 32 number_size a_cut (λ a. cut_then 8 24 number_size a_cut (λ b. cut_then 8 16 number_size a_cut (λ c. cut_then 8 8 number_size a_cut (λ d. cut_last 8 (λ e. made a b c d e) a_cut)))))

keeps_fs_entry : KeepsPlaces 0 fs_entry
keeps_fs_entry = keeps_then 0 (keeps_number 0 w8 (λ n. nat_lt n 2)) by
  where
    by : (tag : ℕ) → KeepsPlaces 0 (fs_entry_of tag)
    by zero = keeps_last 0 (λ f. FsFile f) (keeps_file 0 any)
    by (suc n) = keeps_then 0 (keeps_id 0) (λ x. keeps_last 0 (λ s. FsDir x s) keeps_summary)

pub keeps_fsnode : KeepsPlaces 0 fsnode_fields
keeps_fsnode =
    keeps_then 0 (keeps_exactly 0 (0x46 ∷ [])) (λ mark. keeps_then 0 (keeps_exactly 0 (1 ∷ [])) (λ version. keeps_then 0 keeps_summary (λ s. keeps_then 0 (keeps_number 0 w32 any) (λ count.
    keeps_last 0 (λ es. record { summary = s; entries = es }) (keeps_entries 0 count None keeps_fs_entry)))))

-- ---- unodes

keeps_node_parents : KeepsPlaces 0 node_parents
keeps_node_parents = keeps_then 0 (keeps_exactly 0 (1 ∷ [])) (λ version. keeps_then 0 (keeps_number 0 w8 (λ n. nat_lt n 3)) (λ count. keeps_times 0 count (keeps_id 0)))

keeps_unode_entry : KeepsPlaces 0 one_unode_entry
keeps_unode_entry = keeps_then 0 (keeps_number 0 w8 (λ n. nat_lt n 2)) (λ tag. keeps_last 0 (λ x. unode_entry_for tag x) (keeps_id 0))

keeps_manifest : KeepsPlaces 0 manifest
keeps_manifest =
    keeps_then 0 keeps_node_parents (λ parents. keeps_then 0 (keeps_id 0) (λ linknode. keeps_then 0 (keeps_number 0 w32 any) (λ count.
    keeps_last 0 (λ es. Manifest parents linknode es) (keeps_entries 0 count None keeps_unode_entry))))

keeps_file_unode : KeepsPlaces 0 file_unode
keeps_file_unode =
    keeps_then 0 keeps_node_parents (λ parents. keeps_then 0 (keeps_id 0) (λ content. keeps_then 0 (keeps_number 0 w8 (λ n. nat_lt n 3)) (λ kind. keeps_then 0 (keeps_id 0) (λ path_hash.
    keeps_last 0 (λ linknode. FileUnode parents content (kind_of kind) path_hash linknode) (keeps_id 0)))))

keeps_either : {A : Type 0} {r s : Reader A} (c : ℕ) (b : Bool) → KeepsPlaces c r → KeepsPlaces c s → KeepsPlaces c (cond b r s)
keeps_either c true kr ks = kr
keeps_either c false kr ks = ks

pub keeps_unode : KeepsPlaces 0 unode_fields
keeps_unode = keeps_then 0 (keeps_number 0 w8 (λ n. n == 0x55 || n == 0x56)) (λ mark. keeps_either 0 (mark == 0x55) keeps_manifest keeps_file_unode)

-- ---- deleted nodes

pub keeps_deleted : KeepsPlaces 1 deleted_fields
keeps_deleted =
    keeps_then 1 (keeps_exactly 1 (0x44 ∷ [])) (λ mark. keeps_then 1 (keeps_exactly 1 (1 ∷ [])) (λ version. keeps_then 1 keeps_optional (λ link. keeps_then 1 (keeps_number 1 w32 any) (λ count.
    keeps_last 1 (λ es. record { link = link; entries = es }) (keeps_entries 1 count None (keeps_id 1))))))
