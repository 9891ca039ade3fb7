-- Opening the repository in a file.
--     Unharmed old new      what opening does to a disk, whatever it finds
--     Opens header h journal old new      the repository in it was opened
--     Refuses old new report      it wasn't, and this is reported
--     OpensIn meaning name shelf header h journal disk, RefusesIn meaning name shelf disk report      so it is, of the disk that an opener tells for the name
--     report_of fault      what is reported where it wasn't;  is_unopened result      the file wasn't opened
use Rattle.std.specs.Prelude.{◌≡◌, ◌≢◌, ◌≤◌, ℕ, Bool, true, false, IsSome, IsTrue, List, Option, Some, Result, Ok, Err, is_none}
use Rattle.std.specs.Option.{ForSome}
use Rattle.ports.specs.Faults.{Rose}
use Rattle.ports.specs.Openers.{Shelf, given}
use Rattle.disk_model.specs.Images.{IsImage}
use Rattle.disk_model.specs.Meaning.{Meaning}
use Rattle.disk_model.specs.Calls.{Kept, LeavesOnly, Within, next_moment}
use Rattle.history_model.specs.History.{Entry, stored}
use Rattle.history_model.specs.Journal.{Header, Stands}
use Rattle.reply_model.specs.Legal.{IsLegal}
use Rattle.reply_model.specs.Opening as model
use Rattle.repo_journal.specs.Opened.{IsOpened}
use Rattle.repo_journal.specs.View.{JournalView}
use Rattle.recovery.specs.Answers.{OpensAs}
use Rattle.recovery.specs.declared.fault.OpenFault.{OpenFault}
use Rattle.recovery.specs.declared.fault.OpenFault.TheVariants as faults
use Rattle.command_line.specs.declared.report.Report.{Report}
use Rattle.command_line.specs.declared.report.Report.TheVariants.{Ready, Counted, Migrated, Served, Help, Version, Usage, DiskFault, NotARepository, Damaged, NotEmpty, NoMemory, StreamFault, Loaded, LoadRefused, Followed, BadReply, Differs, Full, OldFormat}
use Rattle.command_line.specs.declared.status.Outcome.{Outcome}

abbrev pub report_of : OpenFault → Report
report_of faults.NotARepository = NotARepository
report_of (faults.Damaged at) = Damaged at
report_of faults.DiskFault = DiskFault
report_of faults.Memory = NoMemory

abbrev pub is_unopened : {T D : Type 0} → Result T (Outcome D) → Bool
is_unopened (Ok x) = false
is_unopened (Err came) = is_none came.disk

-- reads give the same, and a crash left and leaves nothing that one couldn't have left before
pub record Unharmed (old new : Meaning) : Type 0 where
  pub within : IsTrue old.honest → Within new.state old.state
  pub crash : IsTrue old.honest → LeavesOnly (IsImage old.state) old new
  pub kept : Kept old new
  pub grows : old.faults ≤ new.faults

-- each image is what reads give, as of a file that nobody writes
abbrev pub IsSettled : Meaning → Type 0
IsSettled m = (image : List ℕ) → IsImage m.state image → image ≡ m.state.reads

pub record Opens (header : Header) (h : List Entry) (journal : JournalView) (old new : Meaning) : Type 0 where
  pub opened : IsOpened header h journal new
  pub legal : IsLegal header h
  pub stored_is : h ≡ stored h
  pub file : IsTrue old.honest → OpensAs header h old.state.reads
  -- a file that stands for a legal history opens as that
  pub only : IsTrue old.honest → (made : Header) (g : List Entry) → Stands made old.state.reads g → IsLegal made (stored g) → (header ≡ made) × (h ≡ stored g)
  pub settled : IsTrue old.honest → IsSettled old → LeavesOnly (λ image. Stands header image h) old new
  -- the opening's moment and its count of faults are those right after the sync with which it begins: no call had failed
  pub synced : (journal.opening.moment ≡ next_moment old) × (journal.opening.faults ≡ old.faults)
  pub unharmed : Unharmed old new

-- a refusal is the one that the definition of opening finds, and any other report says nothing of the file
abbrev pub Finds : Meaning → Meaning → Report → Type 0
Finds old new NotARepository = IsTrue old.honest → model.opens old.state.reads ≡ Err model.NotARepository
Finds old new (Damaged at) = IsTrue old.honest → model.opens old.state.reads ≡ Err (model.Damaged at)
Finds old new DiskFault = Rose old.faults new.faults
Finds old new NoMemory = Unit {0}
Finds old new (Ready capacity) = ⊥
Finds old new (Counted counts) = ⊥
Finds old new (Migrated entries size) = ⊥
Finds old new (Served connections entries) = ⊥
Finds old new (Loaded landed entries root) = ⊥
Finds old new LoadRefused = ⊥
Finds old new (Followed entries) = ⊥
Finds old new (BadReply number) = ⊥
Finds old new (Differs number) = ⊥
Finds old new (Full number) = ⊥
Finds old new OldFormat = ⊥
Finds old new Help = ⊥
Finds old new Version = ⊥
Finds old new Usage = ⊥
Finds old new NotEmpty = ⊥
Finds old new StreamFault = ⊥

abbrev pub is_refusal : Report → Bool
is_refusal NotARepository = true
is_refusal (Damaged at) = true
is_refusal DiskFault = false
is_refusal NoMemory = false
is_refusal (Ready capacity) = false
is_refusal (Counted counts) = false
is_refusal (Migrated entries size) = false
is_refusal (Served connections entries) = false
is_refusal (Loaded landed entries root) = false
is_refusal LoadRefused = false
is_refusal (Followed entries) = false
is_refusal (BadReply number) = false
is_refusal (Differs number) = false
is_refusal (Full number) = false
is_refusal OldFormat = false
is_refusal Help = false
is_refusal Version = false
is_refusal Usage = false
is_refusal NotEmpty = false
is_refusal StreamFault = false

pub record Refuses (old new : Meaning) (report : Report) : Type 0 where
  pub finds : Finds old new report
  -- what stands for a legal history is never refused
  pub never : IsTrue old.honest → (made : Header) (g : List Entry) → Stands made old.state.reads g → IsLegal made (stored g) → is_refusal report ≡ false
  pub quiet : IsSome old.quiet → report ≢ DiskFault
  pub unharmed : Unharmed old new

abbrev pub IsGiven : {D : Type 0} → List ℕ → Option (Shelf D) → D → Type 0
IsGiven name shelf first = ForSome shelf (λ s. given name false s ≡ Some first)

pub record OpensIn {D : Type 0} (meaning : D → Meaning) (name : List ℕ) (shelf : Option (Shelf D)) (header : Header) (h : List Entry) (journal : JournalView) (disk : D) : Type 0 where
  pub first : D
  pub gives : IsGiven name shelf first
  pub opens : Opens header h journal (meaning first) (meaning disk)

pub record RefusesIn {D : Type 0} (meaning : D → Meaning) (name : List ℕ) (shelf : Option (Shelf D)) (disk : D) (report : Report) : Type 0 where
  pub first : D
  pub gives : IsGiven name shelf first
  pub refuses : Refuses (meaning first) (meaning disk) report
