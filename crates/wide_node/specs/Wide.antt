-- Nodes with their entries in parts.
--     IsBehind counted r count front ps      counted reads just the front, and gives how many entries there are, whatever follows;  the parts are such entries, which r reads
--     IsWide kind count front ps      so it is as of a node of this kind
use Rattle.std.specs.Prelude.{◌≡◌, ◌++◌, ℕ, List, Ok}
use Rattle.byte_fields.specs.Reading.{Reader, id}
use Rattle.manifest_model.specs.NodeReading.{fs_entry, one_unode_entry}
use Rattle.fsnode.specs.Lookup.{entry_count as fs_count}
use Rattle.unode.specs.Lookup.{entry_count as unode_count}
use Rattle.deleted_node.specs.Lookup.{entry_count as deleted_count}
use Rattle.node_parts.specs.Parts.{AreParts}
use Rattle.wide_node.specs.declared.kind.Kind.{Kind}
use Rattle.wide_node.specs.declared.kind.Kind.TheVariants.{Fsnode, Unode, Deleted}

pub record IsBehind {X : Type 0} (counted : Reader ℕ) (r : Reader X) (count : ℕ) (front : List ℕ) (ps : List (List ℕ)) : Type 0 where
  pub counts : (other : List ℕ) → counted (front ++ other) ≡ Ok (count, other)
  pub are : AreParts r count ps

abbrev pub IsWide : Kind → ℕ → List ℕ → List (List ℕ) → Type 0
IsWide Fsnode count front ps = IsBehind fs_count fs_entry count front ps
IsWide Unode count front ps = IsBehind unode_count one_unode_entry count front ps
IsWide Deleted count front ps = IsBehind deleted_count id count front ps
