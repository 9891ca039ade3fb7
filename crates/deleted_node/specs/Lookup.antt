-- The link and the entry of a name, found in the bytes of a deleted node.
--     before_count      reads what stands before the count of entries: the link
--     link_in bytes      the link, as it is found there
--     entry_count      reads what stands before the entries, and gives how many they are
--     entry_named bytes n      the entry of a name, as it is found behind that
use Rattle.std.specs.Prelude.{ℕ, List, [], ◌∷◌, Option, None, Result, Ok, Err}
use Rattle.std.specs.Int.{w32}
use Rattle.byte_fields.specs.Bytes.{Id}
use Rattle.byte_fields.specs.Reading.{Reader, ◌>>=◌, number, exactly, any, id}
use Rattle.history_model.specs.Payload.{optional}
use Rattle.node_fields.specs.Lookup.{named_in}

abbrev pub before_count : Reader (Option Id)
before_count = do
  mark ← exactly (0x44 ∷ [])
  version ← exactly (1 ∷ [])
  optional

abbrev pub link_before : Result (Option Id × List ℕ) ℕ → Option Id
link_before (Ok p) = p.0
link_before (Err left) = None

abbrev pub link_in : List ℕ → Option Id
link_in bytes = link_before (before_count bytes)

abbrev pub entry_count : Reader ℕ
entry_count = do
  link ← before_count
  number w32 any

abbrev pub named_behind : Result (ℕ × List ℕ) ℕ → List ℕ → Option Id
named_behind (Ok p) n = named_in id p.0 n p.1
named_behind (Err left) n = None

abbrev pub entry_named : List ℕ → List ℕ → Option Id
entry_named bytes n = named_behind (entry_count bytes) n
