use Rattle.std.proofs.Common.{◌≡◌, ◌-◌, None}
use Rattle.changeset_model.specs.Decoding.{edits}
use Rattle.bonsai.specs.LastPath.{last_path}
use Rattle.bonsai.specs.Versions.{version_view}
use Rattle.bonsai.specs.View.{edits_view}
use Rattle.byte_fields.proofs.Run.{with_front}
use Rattle.bonsai.proofs.edits.edits_at.Given as goal

-- what was read, with what is left to read, is what there is to read
abbrev pub invariant-loop : goal.invariant-loop
invariant-loop l = with_front (edits_view l.edits.items) (edits (version_view l.version) l.parents (l.count - l.counter) (last_path None (edits_view l.edits.items)) l.rest) ≡ edits (version_view l.version) l.parents l.count None l.bytes
