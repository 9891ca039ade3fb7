use Rattle.std.proofs.Common.{◌≡◌, ◌++◌, take}
use Rattle.std.specs.List.{flat_map}
use Rattle.std.specs.Int.{w8}
use Rattle.byte_fields.specs.Bytes.{sized}
use Rattle.deleted_node.specs.Parts.{children_seen}
use Rattle.deleted_node.proofs.writing.put_children.Given as goal

abbrev pub invariant-loop-child : goal.invariant-loop-child
invariant-loop-child l = l.out.items ≡ l.fn.out.items ++ flat_map (λ e. sized w8 e.0 ++ e.1) (children_seen (take l.child-index l.children))
