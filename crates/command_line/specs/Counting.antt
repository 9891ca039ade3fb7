-- Opening a repository and counting what it holds.
--     Checks old new report      what is reported of a disk, and what is left of it
--     ChecksIn meaning name shelf disk report      so it is, of the disk that an opener tells for the name
use Rattle.std.specs.Prelude.{◌≡◌, ◌⊎◌, ℕ, IsTrue, List, Option}
use Rattle.ports.specs.Openers.{Shelf}
use Rattle.disk_model.specs.Images.{IsImage}
use Rattle.disk_model.specs.Meaning.{Meaning}
use Rattle.history_model.specs.History.{Entry}
use Rattle.history_model.specs.Journal.{Header, Keeps}
use Rattle.repo_journal.specs.View.{JournalView}
use Rattle.repo_machine.specs.Counting.{counts_of}
use Rattle.command_line.specs.Opening.{IsGiven, Opens, Refuses}
use Rattle.command_line.specs.declared.report.Report.{Report}
use Rattle.command_line.specs.declared.report.Report.TheVariants.{Counted}

-- the repository was opened, and these are the counts of the history for which each image of the disk stands
pub record IsCounted (old new : Meaning) (report : Report) : Type 0 where
  pub header : Header
  pub history : List Entry
  pub journal : JournalView
  pub opens : Opens header history journal old new
  pub stands : IsTrue new.honest → Keeps header (IsImage new.state) history
  pub report_is : report ≡ Counted (counts_of history)

abbrev pub Checks : Meaning → Meaning → Report → Type 0
Checks old new report = IsCounted old new report ⊎ Refuses old new report

pub record ChecksIn {D : Type 0} (meaning : D → Meaning) (name : List ℕ) (shelf : Option (Shelf D)) (disk : D) (report : Report) : Type 0 where
  pub first : D
  pub gives : IsGiven name shelf first
  pub checks : Checks (meaning first) (meaning disk) report
