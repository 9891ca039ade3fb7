-- The parts of a whole, as they are read.
--     piece_of part      a part as it is read
--     held_of m h ids      what the file that reads give holds of these contents
--     IsRead m h ids pieces      bytes that may have been read of them: an honest disk gives those that its file holds
--     JoinsParts m h ids result      what is read is joined, or it isn't theirs
--     EntersWhole m header h payload body result after      the whole of the contents with the ids in the body is entered, as it is read
use Rattle.std.specs.Prelude.{◌≡◌, ℕ, false, IsTrue, List, map, Result, Ok, Err}
use Rattle.byte_fields.specs.Bytes.{Id}
use Rattle.disk_model.specs.Meaning.{Meaning}
use Rattle.history_model.specs.History.{Entry, bodies}
use Rattle.history_model.specs.Journal.{Header, held}
use Rattle.reply_model.specs.Reply.{PutWhole, are_pieces, ids_in}
use Rattle.content_pieces.specs.declared.piece.Piece.{Piece}
use Rattle.content_table.specs.declared.part.Part.{Part}
use Rattle.repo_machine.specs.declared.found.Joined.{Joined}
use Rattle.repo_machine.specs.Wholes.{IsJoined}
use Rattle.recovery.specs.declared.replay_fault.ReplayFault.{ReplayFault}
use Rattle.recovery.specs.declared.replay_fault.ReplayFault.TheVariants.{BadPayload, DiskFault, Memory}
use Rattle.recovery.specs.Entering.{asked_entry, Enters}

abbrev pub piece_of : Part → Piece
piece_of part = record { id = part.id; at = part.place.at; length = part.place.length }

abbrev pub held_of : Meaning → List Entry → List Id → List (List ℕ)
held_of m h ids = map (held m.state.reads 16 (bodies h)) ids

abbrev pub IsRead : Meaning → List Entry → List Id → List (List ℕ) → Type 0
IsRead m h ids pieces = IsTrue m.honest → pieces ≡ held_of m h ids

abbrev pub JoinsParts : Meaning → List Entry → List Id → Result Joined ReplayFault → Type 0
JoinsParts m h ids (Ok whole) = (whole.parts.items ≡ ids) × ((pieces : List (List ℕ)) × IsRead m h ids pieces × IsJoined h ids pieces whole.id whole.length)
JoinsParts m h ids (Err BadPayload) = IsTrue m.honest → are_pieces h ids (held_of m h ids) ≡ false
JoinsParts m h ids (Err DiskFault) = Unit {0}
JoinsParts m h ids (Err Memory) = Unit {0}

abbrev pub EntersWhole : Meaning → Header → List Entry → List ℕ → List ℕ → Result (Unit {0}) ReplayFault → List Entry → Type 0
EntersWhole m header h payload body result after = (pieces : List (List ℕ)) × IsRead m h (ids_in body) pieces × Enters h (asked_entry header h payload (PutWhole body pieces)) result after
