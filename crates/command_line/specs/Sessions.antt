-- A session on the repository in a file.
--     status_of end, session_status down end      the status that the end of a session gives, and that of a run where the history holds a breaking fault or not
--     IsOfSeat who h      the seat made all entries
--     LeavesFile header opened h n reach moment first m      what a crash leaves of the file, where the first n stored entries are sealed, and the first reach are left at most
--     EntersNone      of a list each change is sealed before the next is made
--     Serves meaning tells header opened journal read old new ran      one connection is served on an opened repository, whose disk was told so once all was read, by a clock that tells such moments
--     ServesFile meaning tells file shelf old new ran      one is served on the repository in the file that an opener tells for the name
use Rattle.std.specs.Prelude.{◌≡◌, ℕ, ◌≤◌, Bool, true, false, if◌then◌else◌, IsTrue, List, length, Option, Some}
use Rattle.std.specs.List.{AllByRecursion}
use Rattle.std.specs.Option.{ForSome}
use mathlib.Core.List.{IsPrefix}
use Rattle.ports.specs.Faults.{Rose}
use Rattle.ports.specs.Openers.{Shelf}
use Rattle.disk_model.specs.Images.{IsImage}
use Rattle.disk_model.specs.Meaning.{Meaning, LeftSince}
use Rattle.disk_model.specs.Calls.{Kept, LeavesOnly}
use Rattle.history_model.specs.History.{Entry, bodies, is_down}
use Rattle.history_model.specs.Journal.{Header, Stands}
use Rattle.reply_model.specs.After.{Relation}
use Rattle.reply_model.specs.Legal.{IsLegal}
use Rattle.repo_journal.specs.View.{JournalView}
use Rattle.repo_calls.specs.Replying.{Honestly}
use Rattle.http_front.specs.Dating.{DatedBy}
use Rattle.repo_state.specs.Alone.{SealedAlone}
use Rattle.repo_state.specs.Images.{StandsNow, StandsSince}
use Rattle.repo_state.specs.State.{Covers, HasNoFault, IsSealedAlone, IsSound, faults_in, opening_of}
use Rattle.http_front.specs.declared.ended.Ended.{Ended}
use Rattle.http_front.specs.declared.ended.Ended.TheVariants as ends
use Rattle.http_front.specs.Serving.{Finished}
use Rattle.command_line.specs.declared.status.Status.{Status}
use Rattle.command_line.specs.declared.status.Status.TheVariants.{Done, DiskFault, NoMemory, StreamFault, Cut, Refused, Spent}
use Rattle.command_line.specs.Opening.{IsGiven, IsSettled, Opens}
use Rattle.command_line.specs.declared.came.Came.{Came}
use Rattle.command_line.specs.Outside.{Told}

abbrev pub status_of : Ended → Status
status_of ends.Whole = Done
status_of ends.Closed = Done
status_of (ends.Cut read) = Cut
status_of (ends.Refused status) = Refused
status_of ends.Spent = Spent
status_of ends.LinkFault = StreamFault
status_of ends.Memory = NoMemory

abbrev pub session_status : Bool → Ended → Status
session_status down end = if down then DiskFault else status_of end

abbrev pub IsOfSeat : ℕ → List Entry → Type 0
IsOfSeat who h = AllByRecursion (λ (e : Entry). e.who ≡ who) h

-- An image is what a crash could leave: it stands for the entries that are sealed, or after a breaking fault for the first up to one end too, of which the last entries may then be in the file or not. What is sealed is never lost
pub record LeavesFile (header : Header) (opened h : List Entry) (n reach moment : ℕ) (first m : Meaning) : Type 0 where
  pub now : (image : List ℕ) → IsImage m.state image → StandsNow header h n reach image
  -- since the opening for so many of the sealed entries as were sealed then, and never fewer than the file was opened with
  pub since : (image : List ℕ) → LeftSince m moment image → StandsSince header (length opened) h n reach image
  -- and since the file was given, where each image was then what reads give
  pub all : IsSettled first → LeavesOnly (StandsSince header (length opened) h n reach) first m

-- on a disk that fails no call within the capacity there is no fault
abbrev pub IsCalm : Header → List Entry → Meaning → Type 0
IsCalm header h m = ForSome m.quiet (λ most. header.capacity ≤ most → HasNoFault h)

-- no change of a list waits for the seal of another one
abbrev pub EntersNone : Relation
EntersNone header h who call answer new = ⊥

-- from the opened repository to the end
pub record Serves {D : Type 0} (meaning : D → Meaning) (tells : ℕ → Type 0) (header : Header) (opened : List Entry) (journal : JournalView) (read : Meaning) (old new : Told) (ran : Came D) : Type 0 where
  pub disk : D
  pub disk_is : ran.disk ≡ Some disk
  pub history : List Entry
  pub end : Ended
  -- all that was granted is sealed: only the entry of a change that the disk failed may not be
  pub sealed : ℕ
  pub all_sealed : IsSealedAlone history sealed
  pub session : Finished (DatedBy tells (Honestly read.honest (SealedAlone sealed)) EntersNone) (record { header = header; who = 0; history = opened; rest = old.rest; written = old.written }) history new.rest new.written end
  pub status_is : ran.status ≡ session_status (is_down history) end
  pub link_fault : end ≡ ends.LinkFault → Rose old.faults new.faults
  pub sound : IsSound (opening_of header journal.opening read) history sealed (length (bodies history)) (meaning disk)

pub record ServesFile {D : Type 0} (meaning : D → Meaning) (tells : ℕ → Type 0) (file : List ℕ) (shelf : Option (Shelf D)) (old new : Told) (ran : Came D) : Type 0 where
  pub disk : D
  pub disk_is : ran.disk ≡ Some disk
  -- the disk as the opener gave it, and as it was told once all was read
  pub first : D
  pub gives : IsGiven file shelf first
  pub read : Meaning
  pub header : Header
  pub opened : List Entry
  pub journal : JournalView
  pub opens : Opens header opened journal (meaning first) read
  -- the history at the end of the session. All that was granted is sealed, so that every image begins with it: only the entry of a change that the disk failed may not be
  pub history : List Entry
  pub sealed : ℕ
  pub all_sealed : IsSealedAlone history sealed
  pub sealed_first : length opened ≤ sealed
  -- the session, whose landings are made at moments that the clock tells, and whose grants stand among what is sealed
  pub end : Ended
  pub session : Finished (DatedBy tells (Honestly (meaning first).honest (SealedAlone sealed)) EntersNone) (record { header = header; who = 0; history = opened; rest = old.rest; written = old.written }) history new.rest new.written end
  pub status_is : ran.status ≡ session_status (is_down history) end
  pub link_fault : end ≡ ends.LinkFault → Rose old.faults new.faults
  pub legal : IsLegal header history
  pub begins : IsPrefix opened history
  pub alone : IsOfSeat 0 history
  -- no fault comes but with the disk's
  pub calm : IsCalm header history (meaning first)
  pub covers : Covers (faults_in history) (meaning first).faults (meaning disk).faults
  pub disk_fault : is_down history ≡ true → Rose (meaning first).faults (meaning disk).faults
  -- the file at the end, and what a crash leaves of it
  pub kept : Kept (meaning first) (meaning disk)
  pub stands : IsTrue (meaning disk).honest → is_down history ≡ false → ForSome (meaning disk).reads (λ bytes. Stands header bytes history)
  pub leaves : IsTrue (meaning disk).honest → LeavesFile header opened history sealed (length (bodies history)) journal.opening.moment (meaning first) (meaning disk)
