use Rattle.std.proofs.Common.{◌≡◌, ◌-◌, None}
use Rattle.std.specs.Option.{option_copied}
use Rattle.manifest_model.specs.NodeReading.{one_unode_entry, entries}
use Rattle.unode.specs.Parts.{children_seen}
use Rattle.byte_fields.proofs.Run.{with_front}
use Rattle.unode.proofs.reading.entries_at.Given as goal

abbrev pub invariant-loop : goal.invariant-loop
invariant-loop l = with_front (children_seen l.children.items) (entries one_unode_entry (l.count - l.counter) (option_copied l.before) l.rest) ≡ entries one_unode_entry l.count None l.bytes
