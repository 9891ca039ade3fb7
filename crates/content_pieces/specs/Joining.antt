-- Contents of a journal that are joined.
--     IsWithin j p      the piece lies in the file, or in what waits behind it
--     IsRead j m p bytes      these bytes may have been read for the piece: an honest disk gives those that stand there
--     AreJoined j m pieces joined      bytes that may have been read for each piece, of its id, one behind another
--     TellsPiece j m pieces fault      the fault is of the disk, or of the first piece whose bytes have another id
use Rattle.std.specs.Prelude.{◌≡◌, ◌≢◌, ◌+◌, ◌-◌, ◌≤◌, ◌<◌, ◌^◌, ℕ, Bool, true, false, List, [], ◌∷◌, ◌++◌, length, take, drop, Result, Ok, Err, IsTrue, ⊤}
use Rattle.sha2.specs.Sha256.{sha256}
use Rattle.byte_fields.specs.Bytes.{Id, IsBytes}
use Rattle.disk_model.specs.Meaning.{Meaning}
use Rattle.repo_journal.specs.View.{JournalView}
use Rattle.content_pieces.specs.declared.piece.Piece.{Piece}
use Rattle.content_pieces.specs.declared.fault.PieceFault.{PieceFault}
use Rattle.content_pieces.specs.declared.fault.PieceFault.TheVariants.{ReadFault, BadBytes}

pub record IsWithin (j : JournalView) (p : Piece) : Type 0 where
  pub inside : p.at + p.length ≤ j.size + length j.pending.bytes
  pub apart : p.at < j.size → p.at + p.length ≤ j.size
  pub small : p.at + p.length < 2 ^ 63

-- from a place on, so many bytes
pub record IsReadAt (j : JournalView) (m : Meaning) (at count : ℕ) (bytes : List ℕ) : Type 0 where
  pub length : length bytes ≡ count
  pub are_bytes : IsBytes bytes
  pub in_file : at < j.size → IsTrue m.honest → bytes ≡ take count (drop at m.state.reads)
  pub waiting : j.size ≤ at → bytes ≡ take count (drop (at - j.size) j.pending.bytes)

abbrev pub IsRead : JournalView → Meaning → Piece → List ℕ → Type 0
IsRead j m p bytes = IsReadAt j m p.at p.length bytes

abbrev pub AreJoined : JournalView → Meaning → List Piece → List ℕ → Type 0
AreJoined j m [] joined = joined ≡ []
AreJoined j m (p ∷ pieces) joined = (bytes : List ℕ) × IsRead j m p bytes × (sha256 bytes ≡ p.id) × ((rest : List ℕ) × AreJoined j m pieces rest × (joined ≡ bytes ++ rest))

-- pieces whose bytes are theirs, and one whose bytes aren't
pub record HasOther (j : JournalView) (m : Meaning) (pieces : List Piece) (wanted found : Id) : Type 0 where
  pub before : List Piece
  pub other : Piece
  pub after : List Piece
  pub parts : pieces ≡ before ++ other ∷ after
  pub joined : List ℕ
  pub are_theirs : AreJoined j m before joined
  pub bytes : List ℕ
  pub is_read : IsRead j m other bytes
  pub wanted_is : wanted ≡ other.id
  pub found_is : found ≡ sha256 bytes
  pub differ : found ≢ wanted

abbrev pub is_read_fault : {T : Type 0} → Result T PieceFault → Bool
is_read_fault (Ok x) = false
is_read_fault (Err ReadFault) = true
is_read_fault (Err (BadBytes wanted found)) = false

abbrev pub TellsPiece : JournalView → Meaning → List Piece → PieceFault → Type 0
TellsPiece j m pieces ReadFault = ⊤
TellsPiece j m pieces (BadBytes wanted found) = HasOther j m pieces wanted found
