-- A generated load, in a repository in memory.
--     report_of outcome      what is reported of it
--     Closes state load      the repository that it left is closed
--     HoldsAll header h disk      the disk in memory, and what a crash leaves of it, stand for the history, which no fault came to
--     Loads seed stacks clients report load      what is reported of a load, and the disk that it left
use Rattle.std.specs.Prelude.{◌≡◌, ℕ, List, Option, None, Some, Result, Ok, Err}
use Rattle.byte_fields.specs.Bytes.{Id}
use Rattle.disk_model.specs.Images.{IsImage}
use Rattle.disk_model.specs.Meaning.{IsSound as IsWhole}
use Rattle.blob_disk.specs.MemDisk.{memory_of, told_of}
use Rattle.blob_disk.specs.declared.mem_disk.MemDisk.{MemDisk}
use Rattle.history_model.specs.History.{Entry}
use Rattle.history_model.specs.Journal.{Header, Keeps, Stands}
use Rattle.reply_model.specs.Legal.{IsLegal}
use Rattle.repo_state.specs.State.{HasNoFault, IsSound, State, reach}
use Rattle.run_gen.specs.Loads.{IsLoaded, IsStopped}
use Rattle.run_gen.specs.declared.fault.LoadFault.{LoadFault}
use Rattle.run_gen.specs.declared.fault.LoadFault.TheVariants.{Refused, Memory}
use Rattle.run_gen.specs.Begun.{load_header}
use Rattle.run_gen.specs.Sums.{SumsUp}
use Rattle.run_gen.specs.declared.summary.Summary.{Summary}
use Rattle.command_line.specs.declared.report.Report.{Report}
use Rattle.command_line.specs.declared.report.Report.TheVariants.{Ready, Counted, Migrated, Served, Loaded, LoadRefused, Followed, BadReply, Differs, Full, OldFormat, Help, Version, Usage, DiskFault, NotARepository, Damaged, NotEmpty, NoMemory, StreamFault}

abbrev pub report_of : Result Summary LoadFault → Report
report_of (Ok summary) = Loaded summary.landed summary.entries summary.root
report_of (Err Refused) = LoadRefused
report_of (Err Memory) = NoMemory

pub record HoldsAll (header : Header) (h : List Entry) (disk : MemDisk) : Type 0 where
  pub legal : IsLegal header h
  pub calm : HasNoFault h
  pub stands : Stands header (memory_of disk).reads h
  pub keeps : Keeps header (IsImage (told_of disk).state) h

-- the disk of a repository that is done with
pub record IsClosed (s : State) (disk : MemDisk) : Type 0 where
  pub disk_is : told_of disk ≡ s.disk
  pub whole : IsWhole (told_of disk)
  pub sound : IsSound s.opening s.history s.sealed (reach s) s.disk

abbrev pub Closes : Option State → Option MemDisk → Type 0
Closes None None = Unit {0}
Closes (Some s) (Some disk) = IsClosed s disk
Closes None (Some disk) = ⊥
Closes (Some s) None = ⊥

-- the disk is left, and stands for a history that is so
pub record LeavesLoad (Is : Header → List Entry → Type 0) (load : Option MemDisk) : Type 0 where
  pub disk : MemDisk
  pub disk_is : load ≡ Some disk
  pub header : Header
  pub header_is : header ≡ load_header
  pub history : List Entry
  pub holds : HoldsAll header history disk
  pub is : Is header history

-- every client landed all its stacks, and the summary is the history's
pub record IsSummed (seed stacks clients : ℕ) (summary : Summary) (header : Header) (h : List Entry) : Type 0 where
  pub loaded : IsLoaded header seed stacks clients h
  pub sums : SumsUp h summary

abbrev pub summary_of : (landed entries : ℕ) → Id → Summary
summary_of landed entries root = record { landed = landed; entries = entries; root = root }

abbrev pub Loads : (seed stacks clients : ℕ) → Report → Option MemDisk → Type 0
Loads seed stacks clients (Loaded landed entries root) load = LeavesLoad (IsSummed seed stacks clients (summary_of landed entries root)) load
Loads seed stacks clients LoadRefused load = LeavesLoad (λ header h. IsStopped header seed stacks clients h) load
Loads seed stacks clients NoMemory load = load ≡ None
Loads seed stacks clients (Followed entries) load = ⊥
Loads seed stacks clients (BadReply number) load = ⊥
Loads seed stacks clients (Differs number) load = ⊥
Loads seed stacks clients (Full number) load = ⊥
Loads seed stacks clients OldFormat load = ⊥
Loads seed stacks clients (Ready capacity) load = ⊥
Loads seed stacks clients (Counted counts) load = ⊥
Loads seed stacks clients (Migrated entries size) load = ⊥
Loads seed stacks clients (Served connections entries) load = ⊥
Loads seed stacks clients Help load = ⊥
Loads seed stacks clients Version load = ⊥
Loads seed stacks clients Usage load = ⊥
Loads seed stacks clients DiskFault load = ⊥
Loads seed stacks clients NotARepository load = ⊥
Loads seed stacks clients (Damaged at) load = ⊥
Loads seed stacks clients NotEmpty load = ⊥
Loads seed stacks clients StreamFault load = ⊥
