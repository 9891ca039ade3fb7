-- Nodes of a table that are held by their ids.
--     AreOf m nodes      each is the table's
--     IsMore before after      what was held still is
--     IsHere m nodes x      the node of an id is held, if the table has one
--     AreOnWay m nodes root p      so are the deleted nodes at a path and above it, from this root on
use Rattle.std.specs.Prelude.{◌≡◌, ℕ, true, List, Some}
use Rattle.std.specs.Ordering.{nat_cmp}
use Rattle.std.specs.Cmp.Lexicographic.{slice_cmp}
use Rattle.std.specs.BTreeMap.{BTreeMap, get}
use Rattle.std.specs.FinMap as map
use Rattle.byte_fields.specs.Bytes.{Id}
use Rattle.changeset_model.specs.Path.{Path, is_prefix}
use Rattle.manifest_model.specs.Unode.{UnodeDir}
use Rattle.node_table.specs.Table.{Nodes}
use Rattle.manifest_store.specs.Nodes.{deleted_entry_under, walk}

abbrev pub ByIds : Type 0
ByIds = BTreeMap Id (List ℕ)

abbrev pub AreOf : Nodes → ByIds → Type 0
AreOf m nodes = (x : Id) (bytes : List ℕ) → get (slice_cmp nat_cmp) nodes x ≡ Some bytes → map.get m x ≡ Some bytes

abbrev pub IsMore : ByIds → ByIds → Type 0
IsMore before after = (x : Id) (bytes : List ℕ) → get (slice_cmp nat_cmp) before x ≡ Some bytes → get (slice_cmp nat_cmp) after x ≡ Some bytes

abbrev pub IsHere : Nodes → ByIds → Id → Type 0
IsHere m nodes x = (bytes : List ℕ) → map.get m x ≡ Some bytes → get (slice_cmp nat_cmp) nodes x ≡ Some bytes

abbrev pub AreOnWay : Nodes → ByIds → Id → Path → Type 0
AreOnWay m nodes root p = (q : Path) (x : Id) → is_prefix q p ≡ true → walk (deleted_entry_under m) (UnodeDir root) q ≡ Some (UnodeDir x) → IsHere m nodes x
