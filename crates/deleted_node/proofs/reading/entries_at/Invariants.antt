use Rattle.std.proofs.Common.{◌≡◌, ◌-◌, None}
use Rattle.std.specs.Option.{option_copied}
use Rattle.byte_fields.specs.Reading.{id}
use Rattle.manifest_model.specs.NodeReading.{entries}
use Rattle.deleted_node.specs.Parts.{children_seen}
use Rattle.byte_fields.proofs.Run.{with_front}
use Rattle.deleted_node.proofs.reading.entries_at.Given as goal

abbrev pub invariant-loop : goal.invariant-loop
invariant-loop l = with_front (children_seen l.children.items) (entries id (l.count - l.counter) (option_copied l.before) l.rest) ≡ entries id l.count None l.bytes
