use Rattle.std.proofs.Common.{◌≡◌, ◌-◌}
use Rattle.byte_fields.specs.Reading.{times}
use Rattle.history_model.specs.Payload.{encoded}
use Rattle.byte_fields.proofs.Run.{with_front}
use Rattle.repo_events.proofs.parts.commits_at.Given as goal

-- what was read, with what is left to read, is what there is to read
abbrev pub invariant-loop : goal.invariant-loop
invariant-loop l = with_front l.commits.items (times (l.count - l.counter) encoded l.rest) ≡ times l.count encoded l.bytes
