-- Directories by the fsnodes in a table.
--     entries_spelled bytes      the entries of the fsnode that these bytes spell, or none
--     entries_under nodes x      those of the fsnode that stands under an id
--     entries_rise      they rise
use Rattle.std.specs.Prelude.{◌≡◌, ℕ, Bool, true, false, cond, if◌then◌else◌, List, [], Option, None, Some, Result, Ok, Err, refl}
use Rattle.std.specs.Option.{option_map_or}
use Rattle.std.specs.Ordering.{nat_cmp}
use Rattle.std.specs.Cmp.Lexicographic.{slice_cmp}
use Rattle.std.specs.FinMap as map
use Rattle.std.specs.FinMap.{is_sorted}
use Rattle.byte_fields.specs.Bytes.{Id}
use Rattle.manifest_model.specs.Fsnode.{FsEntry, Fsnode}
use Rattle.manifest_model.specs.NodeReading.{fsnode_of}
use Rattle.node_table.specs.Table.{Nodes}

-- the entries of an fsnode of bytes always rise
abbrev pub entries_read : Result Fsnode ℕ → List (List ℕ × FsEntry)
entries_read (Ok n) = if is_sorted (slice_cmp nat_cmp) n.entries then n.entries else []
entries_read (Err at) = []

abbrev pub entries_spelled : List ℕ → List (List ℕ × FsEntry)
entries_spelled bytes = entries_read (fsnode_of bytes)

abbrev pub entries_under : Nodes → Id → List (List ℕ × FsEntry)
entries_under nodes x = option_map_or entries_spelled (map.get nodes x) []

kept_rise : (es : List (List ℕ × FsEntry)) (b : Bool) → is_sorted (slice_cmp nat_cmp) es ≡ b → is_sorted (slice_cmp nat_cmp) (cond b es []) ≡ true
kept_rise es true h = h
kept_rise es false h = refl

read_rise : (r : Result Fsnode ℕ) → is_sorted (slice_cmp nat_cmp) (entries_read r) ≡ true
read_rise (Ok n) = kept_rise n.entries (is_sorted (slice_cmp nat_cmp) n.entries) refl
read_rise (Err at) = refl

pub entries_rise : (nodes : Nodes) (x : Id) → is_sorted (slice_cmp nat_cmp) (entries_under nodes x) ≡ true
entries_rise nodes x = by (map.get nodes x)
  where
    by : (o : Option (List ℕ)) → is_sorted (slice_cmp nat_cmp) (option_map_or entries_spelled o []) ≡ true
    by None = refl
    by (Some bytes) = read_rise (fsnode_of bytes)
