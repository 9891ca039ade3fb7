use Rattle.std.proofs.Common.{◌≡◌, ◌-◌}
use Rattle.byte_fields.specs.Reading.{id, times}
use Rattle.byte_fields.proofs.Run.{with_front}
use Rattle.repo_events.proofs.parts.ids_at.Given as goal

-- what was read, with what is left to read, is what there is to read
abbrev pub invariant-loop : goal.invariant-loop
invariant-loop l = with_front l.ids.items (times (l.count - l.counter) id l.rest) ≡ times l.count id l.bytes
