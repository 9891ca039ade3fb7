use Rattle.std.proofs.Common.{◌≡◌, ◌-◌, None}
use Rattle.std.specs.Option.{option_copied}
use Rattle.manifest_model.specs.NodeReading.{fs_entry, entries}
use Rattle.fsnode.specs.Parts.{children_seen}
use Rattle.byte_fields.proofs.Run.{with_front}
use Rattle.fsnode.proofs.reading.entries_at.Given as goal

abbrev pub invariant-loop : goal.invariant-loop
invariant-loop l = with_front (children_seen l.children.items) (entries fs_entry (l.count - l.counter) (option_copied l.before) l.rest) ≡ entries fs_entry l.count None l.bytes
