-- Making a repository in a file.
--     Unopened report before after      the file wasn't opened, and the opener's count of faults rose
--     Attempts capacity old new report      what is reported of a disk, and what is left of it
--     AttemptsIn meaning name capacity shelf disk report      so it is, of the disk that an opener tells for the name
use Rattle.std.specs.Prelude.{◌≡◌, ◌≢◌, ◌<◌, ◌≤◌, ℕ, true, IsTrue, List, [], length, Option, Some}
use Rattle.std.specs.Option.{ForSome}
use Rattle.ports.specs.Faults.{Rose}
use Rattle.ports.specs.Openers.{Shelf, given}
use Rattle.disk_model.specs.Images.{IsImage}
use Rattle.disk_model.specs.Meaning.{Meaning, IsLong}
use Rattle.disk_model.specs.Calls.{Kept, LeavesOnly, Looked}
use Rattle.changeset_model.specs.Version.{Second}
use Rattle.history_model.specs.Journal.{Keeps}
use Rattle.repo_journal.specs.Sealing.{Makes}
use Rattle.repo_journal.specs.declared.header.TheConstants.{EMPTY_SIZE}
use Rattle.command_line.specs.declared.report.Report.{Report}
use Rattle.command_line.specs.declared.report.Report.TheVariants.{Ready, Counted, Migrated, Served, Help, Version, Usage, DiskFault, NotARepository, Damaged, NotEmpty, NoMemory, StreamFault, Loaded, LoadRefused, Followed, BadReply, Differs, Full, OldFormat}

abbrev pub Unopened : Report → ℕ → ℕ → Type 0
Unopened report before after = (report ≡ DiskFault) × Rose before after

-- the file was empty, and is that of a repository without an entry, of the second version
pub record IsMade (capacity made : ℕ) (old new : Meaning) : Type 0 where
  pub made_is : made ≡ capacity
  pub empty : ForSome old.reads (λ file. length file ≡ 0)
  pub stands : IsTrue old.honest → Keeps (record { capacity = capacity; version = Second }) (IsImage new.state) []
  pub long : IsLong new.reads EMPTY_SIZE

-- the file has bytes, and stays as it was
pub record IsUsed (old new : Meaning) : Type 0 where
  pub bytes : ForSome old.reads (λ file. 0 < length file)
  pub looked : Looked old new
  pub time : LeavesOnly (IsImage new.state) old new

abbrev pub Reported : ℕ → Meaning → Meaning → Report → Type 0
Reported capacity old new (Ready made) = IsMade capacity made old new
Reported capacity old new NotEmpty = IsUsed old new
Reported capacity old new DiskFault = Rose old.faults new.faults
Reported capacity old new (Counted counts) = ⊥
Reported capacity old new (Migrated entries size) = ⊥
Reported capacity old new (Served connections entries) = ⊥
Reported capacity old new (Loaded landed entries root) = ⊥
Reported capacity old new LoadRefused = ⊥
Reported capacity old new (Followed entries) = ⊥
Reported capacity old new (BadReply number) = ⊥
Reported capacity old new (Differs number) = ⊥
Reported capacity old new (Full number) = ⊥
Reported capacity old new OldFormat = ⊥
Reported capacity old new Help = ⊥
Reported capacity old new Version = ⊥
Reported capacity old new Usage = ⊥
Reported capacity old new NotARepository = ⊥
Reported capacity old new (Damaged at) = ⊥
Reported capacity old new NoMemory = ⊥
Reported capacity old new StreamFault = ⊥

pub record Attempts (capacity : ℕ) (old new : Meaning) (report : Report) : Type 0 where
  pub reported : Reported capacity old new report
  pub quiet : ForSome old.quiet (λ most. EMPTY_SIZE ≤ most → report ≢ DiskFault)
  -- a crash at any moment leaves no more bytes than those of a new file
  pub crash : IsTrue old.honest → old.state.reads ≡ [] → Makes old new
  pub kept : Kept old new
  pub grows : old.faults ≤ new.faults

pub record AttemptsIn {D : Type 0} (meaning : D → Meaning) (name : List ℕ) (capacity : ℕ) (shelf : Option (Shelf D)) (disk : D) (report : Report) : Type 0 where
  pub opened : D
  pub gives : ForSome shelf (λ s. given name true s ≡ Some opened)
  pub attempts : Attempts capacity (meaning opened) (meaning disk) report
