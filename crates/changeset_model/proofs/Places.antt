-- A changeset's reader finds its fault at a field.
use Rattle.std.proofs.Common.{ℕ, zero, suc, List}
use Rattle.std.specs.Prelude.{not, nat_lt, nat_le, ◌&&◌, bytes_eq, ◌∷◌, [], length, Option, Some, None}
use Rattle.std.specs.Int.{w8, w16, w32, w64}
use Rattle.byte_fields.specs.Bytes.{is_text, is_line}
use Rattle.byte_fields.proofs.Places.{KeepsPlaces}
use Rattle.byte_fields.specs.Reading.{keeping}
use Rattle.byte_fields.proofs.Places.{keeps_value, keeps_number, keeps_signed, keeps_bytes, keeps_exactly, keeps_id, keeps_then, keeps_last, keeps_with_len}
use Rattle.changeset_model.specs.Version.{Version, First, Second, is_version, version_of}
use Rattle.changeset_model.specs.Path.{Path, elements, is_path}
use Rattle.changeset_model.specs.Changeset.{Set, Delete, most_size}
use Rattle.changeset_model.specs.Decoding.{parents, parent_list, author, message, file, kind_of, path, is_after, source, source_for, a_source, copied, change, change_of, edit, edits, edit_list, changeset}

keeps_parents : (n : ℕ) → KeepsPlaces 0 (parents n)
keeps_parents zero = keeps_value 0 []
keeps_parents (suc zero) = keeps_last 0 (λ first. first ∷ []) (keeps_id 0)
keeps_parents (suc (suc n)) = keeps_then 0 (keeps_id 0) (λ first. keeps_last 0 (λ second. first ∷ second ∷ []) (keeps_bytes 0 32 (λ x. not (bytes_eq first x))))

pub keeps_file : (c : ℕ) (rule : ℕ → _) → KeepsPlaces c (file rule)
keeps_file c rule =
    keeps_then c (keeps_number c w8 (λ n. nat_lt n 3)) (λ kind.
    keeps_then c (keeps_number c w64 rule) (λ size.
    keeps_last c (λ content. record { content = content; kind = kind_of kind; size = size }) (keeps_id c)))

keeps_path : (before : Option Path) → KeepsPlaces 0 (path before)
keeps_path before = keeps_with_len 0 w16 (λ n. nat_lt 0 n && nat_le n 4096) (λ text. keeping (λ p. is_path p && is_after before p) (elements text))

keeps_source : (n flag : ℕ) → KeepsPlaces 0 (source_for n flag)
keeps_source n zero = keeps_value 0 None
keeps_source n (suc flag) = keeps_then 0 (keeps_number 0 w8 (λ m. nat_lt m n)) (λ parent. keeps_last 0 (λ path. Some (a_source parent path)) (keeps_path None))

keeps_copied : (version : Version) (n : ℕ) → KeepsPlaces 0 (copied version n)
keeps_copied First n = keeps_value 0 None
keeps_copied Second n = keeps_then 0 (keeps_number 0 w8 (λ m. nat_lt m 2)) (keeps_source n)

keeps_change_of : (version : Version) (n tag : ℕ) → KeepsPlaces 0 (change_of version n tag)
keeps_change_of version n zero = keeps_value 0 Delete
keeps_change_of version n (suc tag) = keeps_then 0 (keeps_file 0 (λ size. nat_le size most_size)) (λ f. keeps_last 0 (λ copied. Set f copied) (keeps_copied version n))

keeps_edit : (version : Version) (n : ℕ) (before : Option Path) → KeepsPlaces 0 (edit version n before)
keeps_edit version n before = keeps_then 0 (keeps_path before) (λ p. keeps_last 0 (λ c. (p, c)) (keeps_then 0 (keeps_number 0 w8 (λ m. nat_lt m 2)) (keeps_change_of version n)))

keeps_edits : (version : Version) (n m : ℕ) (before : Option Path) → KeepsPlaces 0 (edits version n m before)
keeps_edits version n zero before = keeps_value 0 []
keeps_edits version n (suc m) before = keeps_then 0 (keeps_edit version n before) (λ e. keeps_last 0 (λ es. e ∷ es) (keeps_edits version n m (Some e.0)))

pub keeps_changeset : KeepsPlaces 0 changeset
keeps_changeset =
    keeps_then 0 (keeps_exactly 0 (0x43 ∷ [])) (λ mark.
    keeps_then 0 (keeps_number 0 w8 is_version) (λ version.
    keeps_then 0 (keeps_then 0 (keeps_number 0 w8 (λ n. nat_lt n 3)) keeps_parents) (λ parents.
    keeps_then 0 (keeps_with_len 0 w16 (λ n. nat_lt 0 n && nat_le n 1024) (keeping is_line)) (λ author.
    keeps_then 0 (keeps_signed 0 w64) (λ seconds.
    keeps_then 0 (keeps_signed 0 w32) (λ offset.
    keeps_then 0 (keeps_with_len 0 w32 (λ n. nat_le n 1_048_576) (keeping is_text)) (λ message.
    keeps_last 0 (λ changes. record { version = version_of version; parents = parents; author = author; seconds = seconds; offset = offset; message = message; changes = changes })
    (keeps_then 0 (keeps_number 0 w32 (λ n. nat_le n 4096)) (λ count. keeps_edits (version_of version) (length parents) count None)))))))))
