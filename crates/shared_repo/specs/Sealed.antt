-- A change is entered in one turn of its seat, and sealed in another before it is granted.
--     placed_answer entered      the answer of a change that was entered or not, if its seal is done
--     Tells entered s      with what is granted is told how many entries are stored then, and how many of them are sealed. What isn't granted tells of no seal that failed
--     IsEntered header old call entered new      the seat that had seen old called so, the change was entered so or not in its next turn, and the seat has seen new then
--     IsTold entered seat      what a seat at this place was told in that turn of what is stored and sealed, and the entry that it keeps then. What isn't granted keeps none, and the disk didn't fail it
--     IsLater old new      the place of a seat that was at the old one, after more turns: what it was told of the disk then is so still, and a crash in between left no image but such as are told
--     GoesOn upto old new      a seat has had another turn of its own, in which it made nothing, and keeps none but of the first so many entries
--     IsSeen old new      a seat has seen another turn of its own, in which it made no more than a breaking fault, and keeps no entry
--     seen_at seat      what a seat at this place has seen of the repository
--     IsSoundAt opening t      what was seen is of a repository that was opened so
--     IsState opening seat      what a seat at this place has seen was the state of such a repository: each image that its disk, if honest, left then or leaves later begins with what was sealed
--     IsSeal opening who failed was is      from a state of such a repository to another by a step of a seal of this seat: an image of an honest disk in between stood for what was sealed, or for what one may stand for then, which is the group that is being sealed where its gate may stand open
--     IsSealOf who failed before after      so it is of two states
--     is_last result      a step of a seal that is the last: all is sealed, or it failed
--     IsLastTurn opening old failed new      a state in which a call's last turn began, of a seat that had seen old, and the one in which it ended, which the seat has seen then, with what a crash may have left in the last turn, and in all turns of the call. They are one where nothing had to be sealed any more
--     UnlessRefused result P      the change was granted, or the disk failed it, and P
use Rattle.std.specs.Prelude.{◌≡◌, ℕ, ◌<◌, ◌≤◌, Bool, true, false, IsTrue, List, None, IfSome, Result, Ok, Err}
use mathlib.Core.List.{IsPrefix}
use Rattle.ports.specs.Faults.{Counts}
use Rattle.disk_model.specs.Calls.{Kept}
use Rattle.history_model.specs.History.{Entry}
use Rattle.history_model.specs.Journal.{Header}
use Rattle.reply_model.specs.After.{Answer, Call, Grants, Replies, SeesMore, calm_by}
use Rattle.repo_calls.specs.declared.calls.ChangeFault.{ChangeFault}
use Rattle.repo_calls.specs.declared.calls.ChangeFault.TheVariants as faults
use Rattle.repo_calls.specs.Asking.{is_disk_fault, stored_answer}
use Rattle.repo_calls.specs.Calls.{granted_seen}
use Rattle.repo_state.specs.Images.{LeavesSeal}
use Rattle.repo_state.specs.State.{IsSound, State, after_seal, breaks, reach}
use Rattle.repo_state.specs.declared.sealing.Sealing.{Sealing}
use Rattle.repo_state.specs.declared.sealing.Sealing.TheVariants.{Sealed, UnderWay, Syncs}
use Rattle.bookmark_lock.specs.Opening.{Opening}
use Rattle.bookmark_lock.specs.Leaving.{Lasts}
use Rattle.bookmark_lock.specs.Place.{Place, Unsealed, moved, told_at}
use Rattle.bookmark_lock.specs.Turning.{Turn}
use Rattle.bookmark_lock.specs.Turns.{stored_length, turn_of}
use Rattle.shared_repo.specs.Front.{history_of, sealed_of, disk_of}
use Rattle.shared_repo.specs.declared.turns.Placed.{Placed}

abbrev pub placed_answer : Result Placed ChangeFault → Answer
placed_answer (Ok placed) = Grants (granted_seen placed.granted)
placed_answer (Err fault) = stored_answer (Err fault)

abbrev pub Tells : Result Placed ChangeFault → State → Type 0
Tells (Ok placed) s = (placed.stored ≡ stored_length s.history) × (placed.sealed ≡ s.sealed)
Tells (Err fault) s = is_disk_fault {T = Placed} (Err fault) ≡ false

pub record IsEntered (header : Header) (old : Place) (call : Call) (entered : Result Placed ChangeFault) (new : List Entry) : Type 0 where
  pub before : List Entry
  pub sees : SeesMore old.front old.number before
  pub replies : Replies header before old.number call (placed_answer entered) new

pub record IsAt (placed : Placed) (seat : Place) : Type 0 where
  pub stored_is : placed.stored ≡ stored_length seat.front
  pub told : placed.sealed ≤ seat.sealed
  -- an entry that it keeps is one of these
  pub keeps : IfSome seat.unsealed (λ (u : Unsealed). u.last < placed.stored)
  pub all : placed.stored ≤ placed.sealed → seat.unsealed ≡ None

abbrev pub IsTold : Result Placed ChangeFault → Place → Type 0
IsTold (Ok placed) seat = IsAt placed seat
IsTold (Err fault) seat = (seat.unsealed ≡ None) × (is_disk_fault {T = Placed} (Err fault) ≡ false)

pub record IsLater (old new : Place) : Type 0 where
  pub moved_is : new ≡ moved old new
  pub begins : IsPrefix old.front new.front
  pub seals : old.sealed ≤ new.sealed
  pub lasts : Lasts old.lock.opening.header (told_at old) (told_at new)

pub record GoesOn (upto : ℕ) (old new : Place) : Type 0 where
  pub sees : SeesMore old.front old.number new.front
  pub later : IsLater old new
  pub keeps : IfSome new.unsealed (λ (u : Unsealed). u.last < upto)

pub record IsSeen (old new : Place) : Type 0 where
  pub begins : IsPrefix old.front new.front
  pub own : calm_by old.number new.front ≡ calm_by old.number old.front
  pub seals : old.sealed ≤ new.sealed
  pub none : new.unsealed ≡ None

abbrev pub seen_at : Place → Turn
seen_at seat = record { log = seat.front; sealed = seat.sealed; reach = seat.reach; disk = seat.disk }

abbrev pub IsSoundAt : Opening → Turn → Type 0
IsSoundAt opening t = IsSound opening t.log t.sealed t.reach t.disk

pub record IsState (opening : Opening) (seat : Place) : Type 0 where
  pub sound : IsSoundAt opening (seen_at seat)
  -- it has seen what is sealed in a turn of its own
  pub told : seat.since ≡ seat.sealed

pub record IsSeal (opening : Opening) (who : ℕ) (failed : Bool) (was is : Turn) : Type 0 where
  pub began : IsSoundAt opening was
  pub ended : IsSoundAt opening is
  pub history_is : is.log ≡ after_seal who failed was.log
  pub grows : was.sealed ≤ is.sealed
  pub fails : failed ≡ true → is.sealed ≡ was.sealed
  pub kept : Kept was.disk is.disk
  pub faults : Counts was.disk.faults is.disk.faults (breaks failed was.log)
  pub leaves : IsTrue was.disk.honest → LeavesSeal opening.header was.log was.sealed is.log is.sealed is.reach was.disk is.disk
  -- without an entry that is sealed, or a fault, the disk isn't asked
  pub still : is.sealed ≡ was.sealed → is.log ≡ was.log → is.disk ≡ was.disk

abbrev pub IsSealOf : ℕ → Bool → State → State → Type 0
IsSealOf who failed before after =
    (after.opening ≡ before.opening) × IsSeal before.opening who failed (turn_of history_of sealed_of reach disk_of before) (turn_of history_of sealed_of reach disk_of after)

abbrev pub is_last : {F E : Type 0} → Result (Sealing F) E → Bool
is_last (Ok Sealed) = true
is_last (Ok UnderWay) = false
is_last (Ok (Syncs flush)) = false
is_last (Err fault) = true

pub record IsLastTurn (opening : Opening) (old : Place) (failed : Bool) (new : Place) : Type 0 where
  pub began : Turn
  -- it came after what the seat had seen
  pub begins : IsPrefix old.front began.log
  pub seen : old.sealed ≤ began.sealed
  pub since : Lasts opening.header (told_at old) began
  pub seal : IsSeal opening old.number failed began (seen_at new)
  -- and of the whole call: a crash at any moment since what the seat had been told left no image but such
  pub whole : Lasts opening.header (told_at old) (seen_at new)

-- what is refused says nothing of the disk, as where no memory was there to make the change ready
abbrev pub UnlessRefused : {T : Type 0} → Result T ChangeFault → Type 0 → Type 0
UnlessRefused (Ok x) P = P
UnlessRefused (Err faults.DiskFault) P = P
UnlessRefused (Err faults.ReadFault) P = P
UnlessRefused (Err (faults.BadBytes wanted found)) P = P
UnlessRefused (Err (faults.Refused refusal)) P = Unit {0}
