-- Worked examples of deleted nodes, which hold by computing, digests included. The bytes on the right were computed by another program.
use Rattle.std.specs.Prelude.{◌≡◌, ℕ, List, [], ◌∷◌, length, map, codes, None, Some, Ok, Err, pos, refl}
use Rattle.std.specs.Str.{is_utf8, chars}
use Rattle.sha2.specs.Sha256.{sha256, digest_bytes, hash_after, compress, rounds, schedule, first_words}
use Rattle.byte_fields.specs.Bytes.{Id}
use Rattle.changeset_model.specs.Version.{First}
use Rattle.changeset_model.specs.Path.{Path, elements}
use Rattle.changeset_model.specs.Changeset.{Changeset, Delete, File, FileChange, Regular, Set, id_of}
use Rattle.history_model.specs.History.{with_id}
use Rattle.history_model.specs.Past.{At, Past, past_on}
use Rattle.manifest_model.specs.Deleted.{deleted, deleted_bytes}
use Rattle.manifest_model.specs.NodeReading.{deleted_of}
use Rattle.deleted_node.specs.Lookup.{entry_named, link_in}

abbrev by_a : List Id → List (Path × FileChange) → Changeset
by_a parents changes = record { version = First; parents = parents; author = codes "a"; seconds = pos 0; offset = pos 0; message = []; changes = changes }

abbrev a_file : List ℕ → File
a_file content = record { content = sha256 content; kind = Regular; size = length content }

abbrev set_at_path : List ℕ → List ℕ → Path × FileChange
set_at_path path content = (elements path, Set (a_file content) None)

abbrev delete : List ℕ → Path × FileChange
delete path = (elements path, Delete)

abbrev on : Changeset → List (Path × FileChange) → Changeset
on parent changes = by_a (id_of parent ∷ []) changes

abbrev p : Path
p = elements (codes "p")

abbrev set_first : Changeset
set_first = by_a [] (set_at_path (codes "p") (codes "abc") ∷ [])

abbrev then_deleted : Changeset
then_deleted = on set_first (delete (codes "p") ∷ [])

abbrev set_anew : Changeset
set_anew = on then_deleted (set_at_path (codes "p") [] ∷ [])

-- newest first
abbrev line_to : List Changeset → Past
line_to cs = past_on (map with_id cs)

-- ---- a file that was deleted, and is set anew

abbrev node_of_p : List ℕ
node_of_p = 0x44 ∷ 0x01 ∷ 0x01 ∷ 0xDB ∷ 0xF9 ∷ 0x62 ∷ 0xA6 ∷ 0xE6 ∷ 0x7E ∷ 0x06 ∷ 0x64 ∷ 0x7C ∷ 0xFA ∷ 0x25 ∷ 0x0C ∷ 0x0B ∷ 0x69 ∷ 0xCB ∷ 0x4C ∷ 0x13 ∷ 0x03 ∷ 0xE4 ∷ 0x42 ∷ 0x8F ∷ 0x78 ∷ 0x8D ∷ 0xE5 ∷ 0x4C ∷ 0xF9 ∷ 0x04 ∷ 0x52 ∷ 0x09 ∷ 0xFF ∷ 0x8E ∷ 0x98 ∷ 0x00 ∷ 0x00 ∷ 0x00 ∷ 0x00 ∷ []

abbrev root_with_p : List ℕ
root_with_p = 0x44 ∷ 0x01 ∷ 0x00 ∷ 0x00 ∷ 0x00 ∷ 0x00 ∷ 0x01 ∷ 0x01 ∷ 0x70 ∷ 0x02 ∷ 0x30 ∷ 0x48 ∷ 0xB2 ∷ 0x49 ∷ 0x63 ∷ 0x34 ∷ 0x7F ∷ 0x43 ∷ 0xD4 ∷ 0xD6 ∷ 0x3D ∷ 0x61 ∷ 0xC1 ∷ 0xC3 ∷ 0x1B ∷ 0x0B ∷ 0xB8 ∷ 0xD1 ∷ 0x52 ∷ 0x5F ∷ 0x84 ∷ 0x57 ∷ 0x00 ∷ 0xEC ∷ 0xF4 ∷ 0x9E ∷ 0x99 ∷ 0x62 ∷ 0x15 ∷ 0x82 ∷ 0x43 ∷ []

p_is_gone : deleted_bytes (deleted (line_to (then_deleted ∷ set_first ∷ [])) p) ≡ node_of_p
unfolding is_utf8 chars lib.Utf8.encode sha256 digest_bytes hash_after compress rounds schedule first_words
p_is_gone = refl

root_leads_to_p : deleted_bytes (deleted (line_to (then_deleted ∷ set_first ∷ [])) []) ≡ root_with_p
unfolding is_utf8 chars lib.Utf8.encode sha256 digest_bytes hash_after compress rounds schedule first_words
root_leads_to_p = refl

-- 7 bytes where nothing is gone
p_is_back : deleted_bytes (deleted (line_to (set_anew ∷ then_deleted ∷ set_first ∷ [])) []) ≡ 0x44 ∷ 1 ∷ 0 ∷ 0 ∷ 0 ∷ 0 ∷ 0 ∷ []
unfolding is_utf8 chars lib.Utf8.encode sha256 digest_bytes hash_after compress rounds schedule first_words
p_is_back = refl

lengths : length node_of_p ∷ length root_with_p ∷ [] ≡ 39 ∷ 41 ∷ []
lengths = refl

-- ---- a file that a directory replaced, in which a file was deleted: its node has a link and an entry

abbrev file_d : Changeset
file_d = by_a [] (set_at_path (codes "d") (codes "abc") ∷ [])

abbrev directory_d : Changeset
directory_d = on file_d (set_at_path (codes "d/e") (codes "abc") ∷ [])

abbrev emptied_d : Changeset
emptied_d = on directory_d (delete (codes "d/e") ∷ [])

d_was_file_and_directory : deleted_bytes (deleted (line_to (emptied_d ∷ directory_d ∷ file_d ∷ [])) (elements (codes "d"))) ≡ 0x44 ∷ 0x01 ∷ 0x01 ∷ 0xAC ∷ 0xC3 ∷ 0xDB ∷ 0xDA ∷ 0xE5 ∷ 0x21 ∷ 0x3C ∷ 0x55 ∷ 0x85 ∷ 0x18 ∷ 0x9D ∷ 0xC0 ∷ 0xF8 ∷ 0x25 ∷ 0xDE ∷ 0x63 ∷ 0xA2 ∷ 0xD5 ∷ 0x84 ∷ 0x0D ∷ 0x56 ∷ 0x3C ∷ 0x43 ∷ 0x2A ∷ 0x20 ∷ 0x6D ∷ 0x3A ∷ 0x77 ∷ 0xA1 ∷ 0xD9 ∷ 0xAE ∷ 0x4C ∷ 0x00 ∷ 0x00 ∷ 0x00 ∷ 0x01 ∷ 0x01 ∷ 0x65 ∷ 0x78 ∷ 0x5A ∷ 0xDC ∷ 0x7A ∷ 0xCC ∷ 0x8C ∷ 0xA2 ∷ 0xDB ∷ 0x85 ∷ 0x35 ∷ 0x3E ∷ 0xF6 ∷ 0xA9 ∷ 0xFE ∷ 0x5A ∷ 0xC3 ∷ 0xB8 ∷ 0x5A ∷ 0xE3 ∷ 0xF2 ∷ 0x44 ∷ 0x0F ∷ 0x0E ∷ 0x76 ∷ 0x45 ∷ 0xF7 ∷ 0x39 ∷ 0xD6 ∷ 0xA0 ∷ 0x57 ∷ 0x31 ∷ 0xDE ∷ []
unfolding is_utf8 chars lib.Utf8.encode sha256 digest_bytes hash_after compress rounds schedule first_words
d_was_file_and_directory = refl

-- ---- a file that was deleted in a directory that is still there

abbrev two_in_d : Changeset
two_in_d = by_a [] (set_at_path (codes "d/e") (codes "abc") ∷ set_at_path (codes "d/f") (codes "abc") ∷ [])

abbrev one_in_d : Changeset
one_in_d = on two_in_d (delete (codes "d/e") ∷ [])

d_leads_to_e : deleted_bytes (deleted (line_to (one_in_d ∷ two_in_d ∷ [])) (elements (codes "d"))) ≡ 0x44 ∷ 0x01 ∷ 0x00 ∷ 0x00 ∷ 0x00 ∷ 0x00 ∷ 0x01 ∷ 0x01 ∷ 0x65 ∷ 0x12 ∷ 0x90 ∷ 0xB2 ∷ 0xC3 ∷ 0xFB ∷ 0x84 ∷ 0x8C ∷ 0x30 ∷ 0x6D ∷ 0xF6 ∷ 0x03 ∷ 0x55 ∷ 0x73 ∷ 0x56 ∷ 0x59 ∷ 0xAE ∷ 0x1C ∷ 0xC5 ∷ 0xFE ∷ 0xC0 ∷ 0x9B ∷ 0x5E ∷ 0x37 ∷ 0x4C ∷ 0x24 ∷ 0xAC ∷ 0xA9 ∷ 0x63 ∷ 0x63 ∷ 0x26 ∷ 0xB4 ∷ 0x77 ∷ []
unfolding is_utf8 chars lib.Utf8.encode sha256 digest_bytes hash_after compress rounds schedule first_words
d_leads_to_e = refl

-- ---- a merge that lacks what its second parent alone has deletes nothing

abbrev beside : Changeset
beside = by_a [] (set_at_path (codes "q") (codes "abc") ∷ [])

abbrev merge_dropping_p : Changeset
merge_dropping_p = by_a (id_of beside ∷ id_of set_first ∷ []) (delete (codes "p") ∷ [])

nothing_by_the_second : deleted_bytes (deleted (At (with_id merge_dropping_p) (line_to (beside ∷ [])) (line_to (set_first ∷ []))) []) ≡ 0x44 ∷ 1 ∷ 0 ∷ 0 ∷ 0 ∷ 0 ∷ 0 ∷ []
unfolding is_utf8 chars lib.Utf8.encode sha256 digest_bytes hash_after compress rounds schedule first_words
nothing_by_the_second = refl

-- ---- reading

node_is_read : deleted_of node_of_p ≡ Ok (record { link = Some (0xDB ∷ 0xF9 ∷ 0x62 ∷ 0xA6 ∷ 0xE6 ∷ 0x7E ∷ 0x06 ∷ 0x64 ∷ 0x7C ∷ 0xFA ∷ 0x25 ∷ 0x0C ∷ 0x0B ∷ 0x69 ∷ 0xCB ∷ 0x4C ∷ 0x13 ∷ 0x03 ∷ 0xE4 ∷ 0x42 ∷ 0x8F ∷ 0x78 ∷ 0x8D ∷ 0xE5 ∷ 0x4C ∷ 0xF9 ∷ 0x04 ∷ 0x52 ∷ 0x09 ∷ 0xFF ∷ 0x8E ∷ 0x98 ∷ []); entries = [] })
unfolding is_utf8 chars lib.Utf8.encode
node_is_read = refl

link_is_found : link_in node_of_p ≡ Some (0xDB ∷ 0xF9 ∷ 0x62 ∷ 0xA6 ∷ 0xE6 ∷ 0x7E ∷ 0x06 ∷ 0x64 ∷ 0x7C ∷ 0xFA ∷ 0x25 ∷ 0x0C ∷ 0x0B ∷ 0x69 ∷ 0xCB ∷ 0x4C ∷ 0x13 ∷ 0x03 ∷ 0xE4 ∷ 0x42 ∷ 0x8F ∷ 0x78 ∷ 0x8D ∷ 0xE5 ∷ 0x4C ∷ 0xF9 ∷ 0x04 ∷ 0x52 ∷ 0x09 ∷ 0xFF ∷ 0x8E ∷ 0x98 ∷ [])
unfolding is_utf8 chars lib.Utf8.encode
link_is_found = refl

p_is_found : entry_named root_with_p (codes "p") ≡ Some (0x02 ∷ 0x30 ∷ 0x48 ∷ 0xB2 ∷ 0x49 ∷ 0x63 ∷ 0x34 ∷ 0x7F ∷ 0x43 ∷ 0xD4 ∷ 0xD6 ∷ 0x3D ∷ 0x61 ∷ 0xC1 ∷ 0xC3 ∷ 0x1B ∷ 0x0B ∷ 0xB8 ∷ 0xD1 ∷ 0x52 ∷ 0x5F ∷ 0x84 ∷ 0x57 ∷ 0x00 ∷ 0xEC ∷ 0xF4 ∷ 0x9E ∷ 0x99 ∷ 0x62 ∷ 0x15 ∷ 0x82 ∷ 0x43 ∷ [])
unfolding is_utf8 chars lib.Utf8.encode
p_is_found = refl

q_is_not : entry_named root_with_p (codes "q") ≡ None
unfolding is_utf8 chars lib.Utf8.encode
q_is_not = refl

-- a flag that is neither 0 nor 1
no_third_flag : deleted_of (0x44 ∷ 0x01 ∷ 0x02 ∷ 0x00 ∷ 0x00 ∷ 0x00 ∷ 0x00 ∷ []) ≡ Err 2
unfolding is_utf8 chars lib.Utf8.encode
no_third_flag = refl

-- a link is one field with its flag
link_is_cut : deleted_of (0x44 ∷ 0x01 ∷ 0x01 ∷ 0x00 ∷ 0x00 ∷ 0x00 ∷ 0x00 ∷ 0x00 ∷ 0x00 ∷ 0x00 ∷ 0x00 ∷ 0x00 ∷ 0x00 ∷ 0x00 ∷ 0x00 ∷ 0x00 ∷ 0x00 ∷ 0x00 ∷ 0x00 ∷ 0x00 ∷ 0x00 ∷ 0x00 ∷ 0x00 ∷ 0x00 ∷ 0x00 ∷ 0x00 ∷ 0x00 ∷ 0x00 ∷ 0x00 ∷ 0x00 ∷ 0x00 ∷ 0x00 ∷ 0x00 ∷ 0x00 ∷ []) ≡ Err 2
unfolding is_utf8 chars lib.Utf8.encode
link_is_cut = refl

-- the count is cut off
no_count : deleted_of (0x44 ∷ 0x01 ∷ 0x00 ∷ 0x00 ∷ 0x00 ∷ 0x00 ∷ []) ≡ Err 3
unfolding is_utf8 chars lib.Utf8.encode
no_count = refl

-- a byte follows
one_byte_more : deleted_of (0x44 ∷ 0x01 ∷ 0x00 ∷ 0x00 ∷ 0x00 ∷ 0x00 ∷ 0x00 ∷ 0x00 ∷ []) ≡ Err 7
unfolding is_utf8 chars lib.Utf8.encode
one_byte_more = refl

-- another version
other_version : deleted_of (0x44 ∷ 0x02 ∷ 0x00 ∷ 0x00 ∷ 0x00 ∷ 0x00 ∷ 0x00 ∷ []) ≡ Err 1
unfolding is_utf8 chars lib.Utf8.encode
other_version = refl

-- a name that stands twice: its second place
name_again : deleted_of (0x44 ∷ 0x01 ∷ 0x00 ∷ 0x00 ∷ 0x00 ∷ 0x00 ∷ 0x02 ∷ 0x01 ∷ 0x70 ∷ 0x00 ∷ 0x00 ∷ 0x00 ∷ 0x00 ∷ 0x00 ∷ 0x00 ∷ 0x00 ∷ 0x00 ∷ 0x00 ∷ 0x00 ∷ 0x00 ∷ 0x00 ∷ 0x00 ∷ 0x00 ∷ 0x00 ∷ 0x00 ∷ 0x00 ∷ 0x00 ∷ 0x00 ∷ 0x00 ∷ 0x00 ∷ 0x00 ∷ 0x00 ∷ 0x00 ∷ 0x00 ∷ 0x00 ∷ 0x00 ∷ 0x00 ∷ 0x00 ∷ 0x00 ∷ 0x00 ∷ 0x00 ∷ 0x01 ∷ 0x70 ∷ 0x00 ∷ 0x00 ∷ 0x00 ∷ 0x00 ∷ 0x00 ∷ 0x00 ∷ 0x00 ∷ 0x00 ∷ 0x00 ∷ 0x00 ∷ 0x00 ∷ 0x00 ∷ 0x00 ∷ 0x00 ∷ 0x00 ∷ 0x00 ∷ 0x00 ∷ 0x00 ∷ 0x00 ∷ 0x00 ∷ 0x00 ∷ 0x00 ∷ 0x00 ∷ 0x00 ∷ 0x00 ∷ 0x00 ∷ 0x00 ∷ 0x00 ∷ 0x00 ∷ 0x00 ∷ 0x00 ∷ 0x00 ∷ []) ≡ Err 42
unfolding is_utf8 chars lib.Utf8.encode
name_again = refl
