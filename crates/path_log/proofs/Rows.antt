-- Worked examples of the log of a path, which hold by computing, digests included. The ids on the right were computed by another program.
use Rattle.std.specs.Prelude.{◌≡◌, ℕ, zero, suc, ◌==◌, ◌||◌, List, [], ◌∷◌, length, map, codes, Option, None, Some, pos, refl}
use Rattle.std.specs.Str.{is_utf8, chars}
use Rattle.sha2.specs.Sha256.{sha256, digest_bytes, hash_after, compress, rounds, schedule, first_words}
use Rattle.byte_fields.specs.Bytes.{Id}
use Rattle.changeset_model.specs.Version.{First}
use Rattle.changeset_model.specs.Path.{Path, elements}
use Rattle.changeset_model.specs.Changeset.{Changeset, Delete, File, FileChange, Regular, Set, id_of}
use Rattle.history_model.specs.History.{with_id}
use Rattle.history_model.specs.Past.{At, Past, past_on}
use Rattle.manifest_model.specs.Deleted.{path_log}
use Rattle.path_log.specs.Line.{last_logged, logged}
use Rattle.path_log.specs.Pasts.{id_in, last_past}

abbrev by_a : List Id → List (Path × FileChange) → Changeset
by_a parents changes = record { version = First; parents = parents; author = codes "a"; seconds = pos 0; offset = pos 0; message = []; changes = changes }

abbrev a_file : List ℕ → File
a_file content = record { content = sha256 content; kind = Regular; size = length content }

abbrev set_at_path : List ℕ → List ℕ → Path × FileChange
set_at_path path content = (elements path, Set (a_file content) None)

abbrev delete : List ℕ → Path × FileChange
delete path = (elements path, Delete)

abbrev on : Changeset → List (Path × FileChange) → Changeset
on parent changes = by_a (id_of parent ∷ []) changes

abbrev p : Path
p = elements (codes "p")

abbrev set_first : Changeset
set_first = by_a [] (set_at_path (codes "p") (codes "abc") ∷ [])

abbrev then_deleted : Changeset
then_deleted = on set_first (delete (codes "p") ∷ [])

abbrev set_anew : Changeset
set_anew = on then_deleted (set_at_path (codes "p") [] ∷ [])

-- newest first
abbrev line_to : List Changeset → Past
line_to cs = past_on (map with_id cs)

abbrev three : Past
three = line_to (set_anew ∷ then_deleted ∷ set_first ∷ [])

abbrev id_first : Id
id_first = 0xF2 ∷ 0x3B ∷ 0x8D ∷ 0x89 ∷ 0x7F ∷ 0x50 ∷ 0x55 ∷ 0x70 ∷ 0xBE ∷ 0x94 ∷ 0xC9 ∷ 0x9C ∷ 0x43 ∷ 0xB0 ∷ 0x0F ∷ 0xFD ∷ 0x48 ∷ 0x04 ∷ 0x58 ∷ 0x89 ∷ 0x0B ∷ 0xE7 ∷ 0x1B ∷ 0xB8 ∷ 0x11 ∷ 0x28 ∷ 0xC3 ∷ 0x4B ∷ 0x1C ∷ 0x08 ∷ 0x7A ∷ 0x4F ∷ []

abbrev id_deleted : Id
id_deleted = 0xDB ∷ 0xF9 ∷ 0x62 ∷ 0xA6 ∷ 0xE6 ∷ 0x7E ∷ 0x06 ∷ 0x64 ∷ 0x7C ∷ 0xFA ∷ 0x25 ∷ 0x0C ∷ 0x0B ∷ 0x69 ∷ 0xCB ∷ 0x4C ∷ 0x13 ∷ 0x03 ∷ 0xE4 ∷ 0x42 ∷ 0x8F ∷ 0x78 ∷ 0x8D ∷ 0xE5 ∷ 0x4C ∷ 0xF9 ∷ 0x04 ∷ 0x52 ∷ 0x09 ∷ 0xFF ∷ 0x8E ∷ 0x98 ∷ []

abbrev id_anew : Id
id_anew = 0x96 ∷ 0xB6 ∷ 0x94 ∷ 0x43 ∷ 0x7E ∷ 0x0F ∷ 0xBD ∷ 0x8F ∷ 0x8E ∷ 0x3F ∷ 0x63 ∷ 0x9A ∷ 0xD7 ∷ 0x8D ∷ 0xE0 ∷ 0x13 ∷ 0x0B ∷ 0xAD ∷ 0x16 ∷ 0x30 ∷ 0x62 ∷ 0x89 ∷ 0x34 ∷ 0x08 ∷ 0x8E ∷ 0xE2 ∷ 0x11 ∷ 0xE2 ∷ 0xC0 ∷ 0x44 ∷ 0x0C ∷ 0xD5 ∷ []

-- set, deleted, and set anew
three_are_logged : path_log three p ≡ id_anew ∷ id_deleted ∷ id_first ∷ []
unfolding is_utf8 chars lib.Utf8.encode sha256 digest_bytes hash_after compress rounds schedule first_words
three_are_logged = refl

-- the link of the file that is back isn't the deletion's
file_is_linked : id_in (last_past three p) ≡ Some id_anew
unfolding is_utf8 chars lib.Utf8.encode sha256 digest_bytes hash_after compress rounds schedule first_words
file_is_linked = refl

deletion_is_linked : id_in (last_past (line_to (then_deleted ∷ set_first ∷ [])) p) ≡ Some id_deleted
unfolding is_utf8 chars lib.Utf8.encode sha256 digest_bytes hash_after compress rounds schedule first_words
deletion_is_linked = refl

never_there : path_log three (elements (codes "q")) ≡ []
unfolding is_utf8 chars lib.Utf8.encode sha256 digest_bytes hash_after compress rounds schedule first_words
never_there = refl

-- ---- a merge's second parent deletes nothing and logs nothing

abbrev beside : Changeset
beside = by_a [] (set_at_path (codes "q") (codes "abc") ∷ [])

abbrev merge : Changeset
merge = by_a (id_of beside ∷ id_of then_deleted ∷ []) []

abbrev merged : Past
merged = At (with_id merge) (line_to (beside ∷ [])) (line_to (then_deleted ∷ set_first ∷ []))

nothing_beside : path_log merged p ≡ []
unfolding is_utf8 chars lib.Utf8.encode sha256 digest_bytes hash_after compress rounds schedule first_words
nothing_beside = refl

-- with the file in the second parent alone, the merge is logged
abbrev merge_with_p : Changeset
merge_with_p = by_a (id_of beside ∷ id_of set_first ∷ []) []

abbrev merged_with_p : Past
merged_with_p = At (with_id merge_with_p) (line_to (beside ∷ [])) (line_to (set_first ∷ []))

merge_is_logged : path_log merged_with_p p ≡ (0xDE ∷ 0x78 ∷ 0x72 ∷ 0x19 ∷ 0xC7 ∷ 0x8C ∷ 0xD9 ∷ 0xCB ∷ 0x20 ∷ 0x98 ∷ 0x03 ∷ 0xBD ∷ 0x5F ∷ 0x52 ∷ 0x5B ∷ 0x1F ∷ 0xE3 ∷ 0x82 ∷ 0x30 ∷ 0x83 ∷ 0xF3 ∷ 0x3E ∷ 0xD1 ∷ 0xFA ∷ 0xAA ∷ 0x95 ∷ 0xD5 ∷ 0x94 ∷ 0x78 ∷ 0x1D ∷ 0xFC ∷ 0x78 ∷ []) ∷ []
unfolding is_utf8 chars lib.Utf8.encode sha256 digest_bytes hash_after compress rounds schedule first_words
merge_is_logged = refl

-- ---- by numbers

abbrev parent : ℕ → Option ℕ
parent zero = None
parent (suc n) = Some n

every_second : logged parent (λ n. n == 0 || n == 2) 3 ≡ 2 ∷ 0 ∷ []
every_second = refl

last_of_four : last_logged parent (λ n. n == 0 || n == 2) 3 ≡ Some 2
last_of_four = refl
