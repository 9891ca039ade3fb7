-- What contracts see of a repository in a file, and what is always so of it.
--     State      header and history, how many stored entries are sealed, the records of the others, the group whose seal was begun and isn't done, the room that was made, the manifests that are settled, what is told of the disk, and what it was opened with
--     IsQuiet opening      the disk fails no call on a file within the capacity;  HasNoFault h      nothing failed
--     faults_in h      how many faults the history has
--     IsSound opening h n reach m      what is so of the history, of which n stored entries are sealed, and of the disk of a repository that was opened so. A crash may leave the sealed entries, or the first reach
--     reach s      how many stored entries a crash of a state may leave at most
--     LeavesAfter header h n pending left m      a seal was cut off exactly where a breaking fault is held, and by how far it came a crash now leaves what is sealed alone, or this and the whole group
--     LeavesNow s      so it is of a state
--     IsOfGroup header h n upto at journal m      a group with this end is under way, and has come so far
--     Agrees header h n upto journal m      the journal's file is that of the sealed part, and the records of the rest wait in it. A group, if there is one, ends here
--     laid s      the bytes of the file with those that wait behind them
--     HasFaultRoom h n room      while something waits there is room for the fault that its sealing may meet
--     IsAllSealed h n      all is sealed, unless a breaking fault is held
--     IsSealedAlone h n      and also then all but one entry at most, that of the change which met the fault
--     HasRecordRoom s length      there is room for a record of so many bytes to wait
--     breaks failed h, after_seal who failed h      a seal that failed met a breaking fault, and the history after it
--     entered_answer result      the answer to a change that was entered or refused
--     opening_of header journal first      what it was opened with, by what the journal keeps and the disk as it was then
use Rattle.std.specs.Prelude.{◌≡◌, ◌⊎◌, ℕ, ◌+◌, ◌-◌, ◌^◌, ◌≤◌, ◌<◌, Bool, true, false, not, ◌&&◌, if◌then◌else◌, IsTrue, List, [], ◌∷◌, ◌++◌, length, take, filter, MatchOption, Option, None, Result, Ok, Err}
use Rattle.std.specs.List.{AllByRecursion}
use Rattle.std.specs.Option.{ForSome}
use Rattle.disk_model.specs.Images.{IsImage}
use Rattle.disk_model.specs.Meaning.{Meaning, IsLong}
use Rattle.disk_model.specs.Calls.{Kept}
use Rattle.history_model.specs.History.{Fault, Entry, bodies, is_down, is_stored, unnumbered}
use Rattle.history_model.specs.Journal.{Header, HoldsParts, size}
use Rattle.reply_model.specs.Legal.{IsLegal}
use Rattle.reply_model.specs.After.{Answer, Grants, entry_by}
use Rattle.repo_calls.specs.declared.ask.Granted.{Granted}
use Rattle.repo_calls.specs.declared.refusal.Refusal.{Refusal}
use Rattle.repo_calls.specs.Calls.{granted_seen, refused}
use Rattle.repo_journal.specs.Cuts.{HoldsGroup, IsWithout}
use Rattle.repo_journal.specs.Groups.{IsWith, PendingView, with_group}
use Rattle.repo_journal.specs.Left.{group_in}
use Rattle.repo_journal.specs.Steps.{UnderWay}
use Rattle.repo_journal.specs.View.{JournalView}
use Rattle.repo_journal.specs.declared.left.At.{At}
use Rattle.repo_journal.specs.declared.left.Left as lefts
use Rattle.repo_journal.specs.declared.opening.Opening as journal
use Rattle.repo_machine.specs.Held.{Room}
use Rattle.node_table.specs.Table.{Table}
use Rattle.bookmark_lock.specs.Opening.{Opening}
use Rattle.repo_state.specs.Groups.{goes_on, group_bytes, group_end, is_cut_off, left_of, may_be_open, part_size, reach_of}
use Rattle.repo_state.specs.Images.{sealed_part, IsPending, Leaves, StandsFor}
use Rattle.repo_state.specs.declared.left.Left.{Left}

pub record State : Type 0 where
  pub header : Header
  pub history : List Entry
  pub sealed : ℕ
  pub pending : PendingView
  pub left : Option Left
  pub room : Room
  pub table : Table
  pub disk : Meaning
  pub opening : Opening

abbrev pub IsQuiet : Opening → Type 0
IsQuiet opening = MatchOption opening.quiet ⊥ (λ n. opening.header.capacity ≤ n)

abbrev pub HasNoFault : List Entry → Type 0
HasNoFault h = AllByRecursion (λ (e : Entry). is_stored e.body ≡ true) h

abbrev pub faults_in : List Entry → ℕ
faults_in h = length (filter (λ e. not (is_stored e.body)) h)

-- the disk failed at least as often since the opening as the history tells. Its count stands at its last value
abbrev pub Covers : ℕ → ℕ → ℕ → Type 0
Covers faults first count = (faults + first ≤ count) ⊎ (2 ^ 64 - 1 ≤ count)

pub record IsSound (opening : Opening) (h : List Entry) (n reach : ℕ) (m : Meaning) : Type 0 where
  pub legal : IsLegal opening.header h
  pub begins : opening.length ≤ n
  -- what a crash leaves has all that is sealed, and nothing that isn't stored
  pub reaches : n ≤ reach
  pub within : reach ≤ length (bodies h)
  pub calm : IsQuiet opening → HasNoFault h
  pub honest : opening.honest ≡ m.honest
  pub quiet : opening.quiet ≡ m.quiet
  -- the opening's moment wasn't later than that at which all was read
  pub begun : opening.moment ≤ opening.disk.moment
  pub kept : Kept opening.disk m
  pub covers : Covers (faults_in h) opening.faults m.faults
  pub most : m.faults ≤ 2 ^ 64 - 1
  pub leaves : IsTrue m.honest → Leaves opening.header opening.length opening.moment h n reach opening.disk m

abbrev pub reach : State → ℕ
reach s = reach_of s.sealed s.left

-- it has an entry at least, and ends among the stored ones
abbrev pub EndsWithin : List Entry → ℕ → Left → Type 0
EndsWithin h n l = (n < l.upto) × (l.upto ≤ length (bodies h))

pub record LeavesAfter (header : Header) (h : List Entry) (n : ℕ) (pending : List ℕ) (left : Option Left) (m : Meaning) : Type 0 where
  pub cut_is : is_cut_off left ≡ is_down h
  pub ends : ForSome left (EndsWithin h n)
  pub now : IsTrue m.honest → (image : List ℕ) → IsImage m.state image → StandsFor header h n image ⊎ (IsTrue (may_be_open left) × StandsFor header h (group_end n left) image)
  -- the gate is opened once the group is on the disk behind it
  pub holds : IsTrue (may_be_open left) → IsTrue m.honest → HoldsGroup (size (sealed_part n h)) (group_bytes n (group_end n left) h pending) m.state

abbrev pub LeavesNow : State → Type 0
LeavesNow s = LeavesAfter s.header s.history s.sealed s.pending.bytes s.left s.disk

-- what it left of the disk, since the disk was told so
pub record IsOfGroup (header : Header) (h : List Entry) (n upto : ℕ) (at : At) (file : ℕ) (bytes : List ℕ) (m : Meaning) : Type 0 where
  pub began : Meaning
  pub under : UnderWay at file bytes began m
  -- without the group an image stands for what is sealed, and with it for this and the group
  pub alone : IsTrue m.honest → (image : List ℕ) → IsWithout began.state file image → StandsFor header h n image
  pub whole : IsTrue m.honest → (image : List ℕ) → IsWith began.state file bytes image → StandsFor header h upto image
  -- before the gate stood what was read, whatever a crash had left
  pub front : IsTrue m.honest → (image : List ℕ) → IsImage began.state image → take (file - 1) image ≡ take (file - 1) began.state.reads

abbrev pub IsGoing : Header → List Entry → ℕ → ℕ → ℕ → List ℕ → Meaning → lefts.Left → Type 0
IsGoing header h n upto file pending m l = IsTrue (goes_on l.at) → IsOfGroup header h n upto l.at file (group_in l.length pending) m

pub record Agrees (header : Header) (h : List Entry) (n upto : ℕ) (journal : JournalView) (m : Meaning) : Type 0 where
  pub capacity_is : journal.capacity ≡ header.capacity
  -- with what waits it fits
  pub fits : size h ≤ header.capacity
  pub size_is : journal.size ≡ size (sealed_part n h)
  pub left : LeavesAfter header h n journal.pending.bytes (left_of upto journal.left) m
  pub long : IsLong m.reads journal.size
  -- also once it is down
  pub waits : IsPending h n journal.pending.bytes
  -- the group's records are the first that wait
  pub group : ForSome journal.left (λ l. l.length ≡ part_size n upto h)
  pub going : ForSome journal.left (IsGoing header h n upto journal.size journal.pending.bytes m)
  -- with what waits it has bytes of each whole's parts that have its id
  pub holds : IsTrue m.honest → AllByRecursion (HoldsParts (with_group journal.size journal.pending.bytes m.state.reads) (bodies h)) (bodies h)
  -- where nothing was begun, a crash leaves what reads give
  pub stable : IsTrue m.honest → journal.left ≡ None → (image : List ℕ) → IsImage m.state image → image ≡ m.state.reads

abbrev pub HasFaultRoom : List Entry → ℕ → Room → Type 0
HasFaultRoom h n room = is_down h ≡ false → n < length (bodies h) → 1 ≤ room.entries

abbrev pub IsAllSealed : List Entry → ℕ → Type 0
IsAllSealed h n = is_down h ≡ false → length (bodies h) ≤ n

abbrev pub IsSealedAlone : List Entry → ℕ → Type 0
IsSealedAlone h n = IsAllSealed h n × (length (bodies h) ≤ n + 1)

abbrev pub laid : State → List ℕ
laid s = with_group (size (sealed_part s.sealed s.history)) s.pending.bytes s.disk.state.reads

abbrev pub HasRecordRoom : State → ℕ → Type 0
HasRecordRoom s length = length ≤ s.pending.room

abbrev pub breaks : Bool → List Entry → Bool
breaks failed h = failed && not (is_down h)

abbrev pub after_seal : ℕ → Bool → List Entry → List Entry
after_seal who failed h = if breaks failed h then h ++ entry_by who (Fault true) ∷ [] else h

abbrev pub entered_answer : Result Granted Refusal → Answer
entered_answer (Ok granted) = Grants (granted_seen granted)
entered_answer (Err refusal) = refused refusal

abbrev pub opening_of : Header → journal.Opening → Meaning → Opening
opening_of header o first = record { header = header; moment = o.moment; length = o.length; faults = o.faults; quiet = first.quiet; honest = first.honest; disk = first }

-- the same entry of the seat 0
abbrev pub unseated : Entry → Entry
unseated e = unnumbered e.body
