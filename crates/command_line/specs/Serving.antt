-- Connections that are served on the repository in a file.
--     IsServed links      as many were served as came, while the count of those can still rise
--     TakesLinks connections faulted links      how many were taken, and why no more
--     served_report down faulted served entries      what is reported of the end
--     ServesOpened meaning header opened journal read lanes connections links report left      connections are served on an opened repository, whose disk was told so once all was read
--     ClosesFile header opened journal first history sealed reach m      what is so of the history and the disk in the end, of a repository that was opened so on this disk, and of which so many stored entries are sealed, and the first reach are left by a crash at most
--     ServesRepository meaning file shelf lanes connections links report left      they are served on the repository in the file that an opener tells for the name
use Rattle.std.specs.Prelude.{◌≡◌, ◌⊎◌, ℕ, ◌+◌, ◌-◌, ◌^◌, ◌≤◌, Bool, true, false, if◌then◌else◌, IsTrue, All, List, length, Option, Some}
use Rattle.std.specs.Option.{ForSome}
use mathlib.Core.List.{IsPrefix}
use Rattle.ports.specs.Faults.{Rose}
use Rattle.ports.specs.Openers.{Shelf}
use Rattle.disk_model.specs.Meaning.{Meaning}
use Rattle.disk_model.specs.Meaning as disks
use Rattle.disk_model.specs.Calls.{Kept}
use Rattle.history_model.specs.History.{Entry, bodies, is_down}
use Rattle.bookmark_lock.specs.Lasting.{AreLast}
use Rattle.history_model.specs.Journal.{Header, Stands}
use Rattle.reply_model.specs.Legal.{IsLegal}
use Rattle.repo_journal.specs.View.{JournalView}
use Rattle.repo_machine.specs.Counting.{counts_of}
use Rattle.repo_machine.specs.Seats.{cleared}
use Rattle.repo_state.specs.State.{Covers, IsAllSealed, IsSound, faults_in, opening_of}
use Rattle.command_line.specs.declared.report.Report.{Report}
use Rattle.command_line.specs.declared.report.Report.TheVariants.{DiskFault, Served, StreamFault}
use Rattle.command_line.specs.Opening.{IsGiven, Opens}
use Rattle.command_line.specs.Outside.{Links}
use Rattle.command_line.specs.Sessions.{IsCalm, LeavesFile}

abbrev pub IsServed : Links → Type 0
IsServed links = (links.before.given + links.served ≡ links.after.given) ⊎ (links.after.given ≡ 2 ^ 64 - 1)

pub record TakesLinks (connections : ℕ) (faulted : Bool) (links : Links) : Type 0 where
  pub served_is : IsServed links
  pub most : links.served ≤ connections
  pub grows : links.before.faults ≤ links.after.faults
  -- it ends by a call that failed, or else with all connections or as no more will come
  pub fault : faulted ≡ true → Rose links.before.faults links.after.faults
  pub through : faulted ≡ false → (links.served ≡ connections) ⊎ (links.after.over ≡ true)
  -- where none failed, the count of faults is as it was
  pub calm : faulted ≡ false → links.after.faults ≡ links.before.faults

-- a breaking fault is told before all else
abbrev pub served_report : (down faulted : Bool) (served entries : ℕ) → Report
served_report down faulted served entries = if down then DiskFault else (if faulted then StreamFault else Served served entries)

pub record ClosesFile (header : Header) (opened : List Entry) (journal : JournalView) (first : Meaning) (history : List Entry) (sealed reach : ℕ) (m : Meaning) : Type 0 where
  pub legal : IsLegal header history
  pub begins : IsPrefix opened history
  -- no fault comes but with the disk's
  pub calm : IsCalm header history first
  pub covers : Covers (faults_in history) first.faults m.faults
  pub disk_fault : is_down history ≡ true → Rose first.faults m.faults
  -- what the file was opened with is sealed
  pub sealed_first : length opened ≤ sealed
  -- what a crash leaves has all that is sealed, and nothing that isn't stored
  pub reaches : sealed ≤ reach
  pub within : reach ≤ length (bodies history)
  -- the file at the end, and what a crash leaves of it
  pub kept : Kept first m
  pub stands : IsTrue m.honest → is_down history ≡ false → ForSome m.reads (λ bytes. Stands header bytes history)
  pub leaves : IsTrue m.honest → LeavesFile header opened history sealed reach journal.opening.moment first m

-- from the opened repository to the end
pub record ServesOpened {D : Type 0} (meaning : D → Meaning) (header : Header) (opened : List Entry) (journal : JournalView) (read : Meaning) (lanes connections : ℕ) (links : Links) (report : Report) (left : Option D) : Type 0 where
  pub disk : D
  pub disk_is : left ≡ Some disk
  pub whole : disks.IsSound (meaning disk)
  pub history : List Entry
  pub begins : IsPrefix (cleared opened) history
  pub seats : All (λ (e : Entry). e.who ≤ lanes) history
  -- nothing waits to be sealed, unless the disk failed
  pub sealed : ℕ
  pub all_sealed : IsAllSealed history sealed
  -- up to where a crash leaves entries that wait, if the disk failed
  pub reach : ℕ
  pub sound : IsSound (opening_of header journal.opening read) history sealed reach (meaning disk)
  pub faulted : Bool
  pub takes : TakesLinks connections faulted links
  -- what the sessions were granted stands among the first so many, and these are sealed
  pub told : links.sealed ≤ sealed
  -- what waits to be sealed is of each lane one entry at most
  pub last : AreLast history sealed
  pub few : length (bodies history) ≤ sealed + lanes
  pub report_is : report ≡ served_report (is_down history) faulted links.served (counts_of history).entries

pub record ServesRepository {D : Type 0} (meaning : D → Meaning) (file : List ℕ) (shelf : Option (Shelf D)) (lanes connections : ℕ) (links : Links) (report : Report) (left : Option D) : Type 0 where
  pub disk : D
  pub disk_is : left ≡ Some disk
  -- the disk as the opener gave it, and as it was told once all was read
  pub first : D
  pub gives : IsGiven file shelf first
  pub read : Meaning
  pub header : Header
  pub opened : List Entry
  pub journal : JournalView
  pub opens : Opens header opened journal (meaning first) read
  -- the history at the end, each of whose entries is of a seat with a number up to that of the lanes
  pub history : List Entry
  -- nothing waits to be sealed, unless the disk failed: then what waited up to one end may be in the file or not
  pub sealed : ℕ
  pub all_sealed : IsAllSealed history sealed
  pub reach : ℕ
  pub closes : ClosesFile header opened journal (meaning first) history sealed reach (meaning disk)
  pub seats : All (λ (e : Entry). e.who ≤ lanes) history
  -- the links, of which the last call may have failed
  pub faulted : Bool
  pub takes : TakesLinks connections faulted links
  -- what the sessions were granted stands among the first so many, and these are sealed
  pub told : links.sealed ≤ sealed
  -- what waits to be sealed is of each lane one entry at most
  pub last : AreLast history sealed
  pub few : length (bodies history) ≤ sealed + lanes
  pub report_is : report ≡ served_report (is_down history) faulted links.served (counts_of history).entries
