-- How contracts see the parts of a deleted node.
--     entry_seen e, child_seen c, children_seen cs      an entry by the id of its node, an entry with its name, and a list of these
--     node_of_parts link children      the node with this link and these entries
use Rattle.std.specs.Prelude.{ℕ, List, map, Option}
use Rattle.std.specs.Global.{Vec}
use Rattle.byte_fields.specs.Bytes.{Id}
use Rattle.manifest_model.specs.Deleted.{DeletedNode}
use Rattle.deleted_node.specs.declared.entry.DeletedEntry.{DeletedEntry}
use Rattle.node_fields.specs.declared.child.Child.{Child}

abbrev pub entry_seen : DeletedEntry → Id
entry_seen e = e.id

abbrev pub child_seen : Child DeletedEntry → List ℕ × Id
child_seen c = (c.name, entry_seen c.entry)

abbrev pub children_seen : List (Child DeletedEntry) → List (List ℕ × Id)
children_seen cs = map child_seen cs

abbrev pub node_of_parts : Option Id → Vec (Child DeletedEntry) → DeletedNode
node_of_parts link children = record { link = link; entries = children_seen children.items }
