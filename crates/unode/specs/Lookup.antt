-- The entry of a name, found in the bytes of a directory's unode.
--     entries_in n      the entries of a directory's unode;  a file's has none
--     entry_count, manifest_count      reads what stands before the entries, from the mark and behind it, and gives how many they are
--     entry_named bytes n      the entry of a name, as it is found behind that
use Rattle.std.specs.Prelude.{ℕ, ◌||◌, ◌==◌, if◌then◌else◌, List, [], length, Option, None, Result, Ok, Err}
use Rattle.std.specs.Int.{w8, w32}
use Rattle.byte_fields.specs.Reading.{Reader, value, ◌>>=◌, number, any, id}
use Rattle.manifest_model.specs.Unode.{Unode, Manifest, FileUnode, UnodeEntry}
use Rattle.manifest_model.specs.NodeReading.{node_parents, one_unode_entry}
use Rattle.node_fields.specs.Lookup.{named_in}

abbrev pub entries_in : Unode → List (List ℕ × UnodeEntry)
entries_in (Manifest parents linknode entries) = entries
entries_in (FileUnode parents content kind path_hash linknode) = []

abbrev pub manifest_count : Reader ℕ
manifest_count = do
  parents ← node_parents
  linknode ← id
  number w32 any

abbrev pub no_entries : Reader ℕ
no_entries bytes = Err (length bytes)

abbrev pub entry_count : Reader ℕ
entry_count = do
  mark ← number w8 (λ n. n == 0x55 || n == 0x56)
  if mark == 0x55 then manifest_count else no_entries

abbrev pub named_behind : Result (ℕ × List ℕ) ℕ → List ℕ → Option UnodeEntry
named_behind (Ok p) n = named_in one_unode_entry p.0 n p.1
named_behind (Err left) n = None

abbrev pub entry_named : List ℕ → List ℕ → Option UnodeEntry
entry_named bytes n = named_behind (entry_count bytes) n
