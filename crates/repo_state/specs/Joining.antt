-- Contents of a repository that are joined.
--     AreStanding h parts      each part's bytes stand where it says
--     Holds s x parts      the file with what waits has bytes of these contents that have this id, on an honest disk
--     IsReadWhole j m parts whole      the whole was read of these parts
--     is_disks fault      the disk failed to read
--     piece_fault fault, TellsUnread j m parts fault      why contents weren't read, as the answer to a change
--     IsJoinOf s parts whole      the whole is what the repository has of these parts
--     JoinFails h who ids fault new      the contents weren't joined, and the history is this then
use Rattle.std.specs.Prelude.{◌≡◌, ◌≢◌, ℕ, List, [], ◌∷◌, ◌++◌, map, sum_by, Bool, true, Contains, false, Option, None, Some, IsTrue}
use Rattle.std.specs.List.{All}
use Rattle.sha2.specs.Sha256.{sha256}
use Rattle.byte_fields.specs.Bytes.{Id}
use Rattle.disk_model.specs.Meaning.{Meaning}
use Rattle.history_model.specs.History.{Body, Whole, Fault, Entry, bodies}
use Rattle.history_model.specs.Journal.{HoldsParts}
use Rattle.reply_model.specs.After.{entry_by}
use Rattle.repo_journal.specs.View.{JournalView}
use Rattle.content_pieces.specs.Joining.{AreJoined, HasOther}
use Rattle.content_pieces.specs.declared.fault.PieceFault.{PieceFault}
use Rattle.content_pieces.specs.declared.fault.PieceFault.TheVariants as pieces
use Rattle.content_table.specs.declared.part.Part.{Part}
use Rattle.repo_calls.specs.declared.calls.ChangeFault.{ChangeFault}
use Rattle.repo_calls.specs.declared.calls.ChangeFault.TheVariants.{Refused, DiskFault, ReadFault, BadBytes}
use Rattle.repo_calls.specs.declared.refusal.Refusal.TheVariants.{Memory}
use Rattle.repo_machine.specs.Indexes.{StandsAt}
use Rattle.repo_machine.specs.Wholes.{IsJoined}
use Rattle.repo_machine.specs.declared.found.Joined.{Joined}
use Rattle.repo_state.specs.Filling.{part_len, piece_of}
use Rattle.repo_state.specs.State.{State, laid}

abbrev pub ids_of : List Part → List Id
ids_of parts = map (λ (p : Part). p.id) parts

abbrev pub AreStanding : List Entry → List Part → Type 0
AreStanding h parts = All (λ (p : Part). StandsAt h p.id p.place) parts

-- what a new entry needs of the file and of what waits
abbrev pub Holds : State → Option Body → Type 0
Holds s None = Unit {0}
Holds s (Some body) = IsTrue s.disk.honest → HoldsParts (laid s) (bodies s.history) body

pub record IsReadWhole (j : JournalView) (m : Meaning) (parts : List Part) (whole : Joined) : Type 0 where
  pub parts_are : whole.parts.items ≡ ids_of parts
  pub bytes : List ℕ
  pub joined : AreJoined j m (map piece_of parts) bytes
  pub id_is : whole.id ≡ sha256 bytes
  pub length_is : whole.length ≡ sum_by part_len parts

abbrev pub piece_fault : PieceFault → ChangeFault
piece_fault pieces.ReadFault = ReadFault
piece_fault (pieces.BadBytes wanted found) = BadBytes wanted found

-- the disk failed to read
abbrev pub is_disks : ChangeFault → Bool
is_disks (Refused refusal) = false
is_disks DiskFault = false
is_disks ReadFault = true
is_disks (BadBytes wanted found) = false

abbrev pub TellsUnread : JournalView → Meaning → List Part → ChangeFault → Type 0
TellsUnread j m parts (Refused refusal) = refusal ≡ Memory
TellsUnread j m parts DiskFault = ⊥
TellsUnread j m parts ReadFault = Unit {0}
TellsUnread j m parts (BadBytes wanted found) = HasOther j m (map piece_of parts) wanted found

pub record IsJoinOf (s : State) (parts : List Part) (whole : Joined) : Type 0 where
  pub parts_are : whole.parts.items ≡ ids_of parts
  pub pieces : List (List ℕ)
  pub joined : IsJoined s.history (ids_of parts) pieces whole.id whole.length
  pub holds : Holds s (Some (Whole whole.id whole.length (ids_of parts)))

abbrev pub JoinFails : List Entry → ℕ → List Id → ChangeFault → List Entry → Type 0
JoinFails h who ids (Refused refusal) new = (refusal ≡ Memory) × (new ≡ h)
JoinFails h who ids DiskFault new = ⊥
JoinFails h who ids ReadFault new = new ≡ h ++ entry_by who (Fault false) ∷ []
JoinFails h who ids (BadBytes wanted found) new = Contains ids wanted × (found ≢ wanted) × (new ≡ h)
