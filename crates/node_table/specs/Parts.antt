-- How contracts see the parts of a table.
--     form_bytes f      the bytes of a node in one of its forms
--     nodes_of_entries es      what the entries of a map stand for
use Rattle.std.specs.Prelude.{ℕ, List}
use Rattle.std.specs.FinMap as map
use Rattle.byte_fields.specs.Bytes.{Id}
use Rattle.node_table.specs.Table.{Nodes}
use Rattle.node_table.specs.declared.stored.Form.{Form}
use Rattle.node_table.specs.declared.stored.Form.TheVariants.{Whole, Wide}

abbrev pub form_bytes : Form → List ℕ
form_bytes (Whole bytes) = bytes.items
form_bytes (Wide node) = node.value

abbrev pub nodes_of_entries : List (Id × List ℕ) → Nodes
nodes_of_entries es = map.from_entries es
