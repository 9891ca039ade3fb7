-- What a seat has seen of a repository that was opened so.
--     IsFront opening h      a legal history, without a fault where the disk fails no call on a file within the capacity
--     IsGivenBack old new      a repository that no seat took a turn with: the numbers of its entries are 0, and all else is as it was
--     history_of, opening_of, sealed_of, disk_of      what the lock sees of a repository, with `reach`
--     most_waiting      so many stored entries of one seat wait at once
use Rattle.std.specs.Prelude.{◌≡◌, ℕ, List}
use Rattle.disk_model.specs.Meaning.{Meaning}
use Rattle.history_model.specs.History.{Entry}
use Rattle.reply_model.specs.Legal.{IsLegal}
use Rattle.repo_machine.specs.Seats.{cleared}
use Rattle.repo_state.specs.State.{HasNoFault, IsQuiet, State}
use Rattle.bookmark_lock.specs.Opening.{Opening}

pub record IsFront (opening : Opening) (h : List Entry) : Type 0 where
  pub legal : IsLegal opening.header h
  pub calm : IsQuiet opening → HasNoFault h

pub record IsGivenBack (old new : State) : Type 0 where
  pub header : new.header ≡ old.header
  pub history : new.history ≡ cleared old.history
  pub sealed : new.sealed ≡ old.sealed
  pub left : new.left ≡ old.left
  pub table : new.table ≡ old.table
  pub disk : new.disk ≡ old.disk
  pub opening : new.opening ≡ old.opening

abbrev pub history_of : State → List Entry
history_of s = s.history

abbrev pub opening_of : State → Opening
opening_of s = s.opening

abbrev pub sealed_of : State → ℕ
sealed_of s = s.sealed

abbrev pub most_waiting : ℕ
most_waiting = 1

abbrev pub disk_of : State → Meaning
disk_of s = s.disk
