-- Why nothing is entered.
--     decode_fault e      where a payload isn't decoded;  piece_fault e      where contents aren't joined
--     wants_memory e      a change is refused since memory ran out;  refusal_fault e      where one is refused
--     is_read_fault result      a call of the disk failed
use Rattle.std.specs.Prelude.{Bool, true, false, if◌then◌else◌, Result, Ok, Err}
use Rattle.content_pieces.specs.declared.fault.PieceFault.{PieceFault}
use Rattle.content_pieces.specs.declared.fault.PieceFault.TheVariants as pieces
use Rattle.repo_calls.specs.declared.refusal.Refusal.{Refusal}
use Rattle.repo_calls.specs.declared.refusal.Refusal.TheVariants as refusals
use Rattle.repo_events.specs.declared.payload_fault.PayloadFault.{PayloadFault}
use Rattle.repo_events.specs.declared.payload_fault.PayloadFault.TheVariants as payloads
use Rattle.recovery.specs.declared.replay_fault.ReplayFault.{ReplayFault}
use Rattle.recovery.specs.declared.replay_fault.ReplayFault.TheVariants.{BadPayload, DiskFault, Memory}

abbrev pub decode_fault : PayloadFault → ReplayFault
decode_fault (payloads.BadPayload at) = BadPayload
decode_fault payloads.Memory = Memory

abbrev pub wants_memory : Refusal → Bool
wants_memory refusals.Down = false
wants_memory (refusals.TooLong length) = false
wants_memory (refusals.BadEncoding at) = false
wants_memory (refusals.SelfConflict short long) = false
wants_memory (refusals.BadParts length) = false
wants_memory refusals.OldFormat = false
wants_memory (refusals.NoPiece id) = false
wants_memory (refusals.NotAPiece id) = false
wants_memory (refusals.NoParent id) = false
wants_memory (refusals.NoContent path id) = false
wants_memory (refusals.WrongSize path wanted found) = false
wants_memory (refusals.Unresolved path) = false
wants_memory (refusals.Collision id) = false
wants_memory (refusals.NoChangeset id) = false
wants_memory (refusals.Moved found) = false
wants_memory refusals.NoBookmark = false
wants_memory refusals.NoRoot = false
wants_memory (refusals.TooFarBehind distance) = false
wants_memory refusals.AlreadyIn = false
wants_memory (refusals.StackTooLong count) = false
wants_memory (refusals.MergeInStack id) = false
wants_memory (refusals.MergeInRange id) = false
wants_memory (refusals.Denied place rule) = false
wants_memory (refusals.Clash left right) = false
wants_memory (refusals.TooLarge length) = false
wants_memory (refusals.BadPolicy line) = false
wants_memory (refusals.Full size length) = false
wants_memory refusals.Memory = true

abbrev pub refusal_fault : Refusal → ReplayFault
refusal_fault e = if wants_memory e then Memory else BadPayload

abbrev pub piece_fault : PieceFault → ReplayFault
piece_fault pieces.ReadFault = DiskFault
piece_fault (pieces.BadBytes wanted found) = BadPayload

abbrev pub is_read_fault : {T : Type 0} → Result T ReplayFault → Bool
is_read_fault (Ok x) = false
is_read_fault (Err BadPayload) = false
is_read_fault (Err DiskFault) = true
is_read_fault (Err Memory) = false
