-- The entry of a name, found in the bytes of an fsnode.
--     entry_count      reads what stands before the entries, and gives how many they are
--     entry_named bytes n      the entry of a name, as it is found behind that
use Rattle.std.specs.Prelude.{ℕ, List, [], ◌∷◌, Option, None, Result, Ok, Err}
use Rattle.std.specs.Int.{w32}
use Rattle.byte_fields.specs.Reading.{Reader, value, ◌>>=◌, number, exactly, any}
use Rattle.manifest_model.specs.Fsnode.{FsEntry}
use Rattle.manifest_model.specs.NodeReading.{fs_entry, summary}
use Rattle.node_fields.specs.Lookup.{named_in}

abbrev pub entry_count : Reader ℕ
entry_count = do
  mark ← exactly (0x46 ∷ [])
  version ← exactly (1 ∷ [])
  s ← summary
  number w32 any

abbrev pub named_behind : Result (ℕ × List ℕ) ℕ → List ℕ → Option FsEntry
named_behind (Ok p) n = named_in fs_entry p.0 n p.1
named_behind (Err left) n = None

abbrev pub entry_named : List ℕ → List ℕ → Option FsEntry
entry_named bytes n = named_behind (entry_count bytes) n
