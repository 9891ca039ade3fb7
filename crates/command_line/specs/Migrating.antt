-- Migrating the repository in a file to another file.
--     report_of counts result      what is reported of the copy of a repository that has so much
--     CopiesOpened meaning target shelf header h journal read before after came      what the copy of an opened repository came to
--     Migrates meaning source target shelf before after came      what a migration came to, of the disks that an opener tells for the names
use Rattle.std.specs.Prelude.{◌≡◌, ◌⊎◌, ℕ, false, List, Option, None, Some, MatchOption, Result, Ok, Err}
use Rattle.std.specs.Option.{option_map}
use Rattle.ports.specs.Openers.{Shelf, left}
use Rattle.disk_model.specs.Meaning.{Meaning}
use Rattle.history_model.specs.History.{Entry}
use Rattle.history_model.specs.Journal.{Header}
use Rattle.repo_journal.specs.Opened.{IsOpened}
use Rattle.repo_journal.specs.View.{JournalView}
use Rattle.repo_machine.specs.Counting.{counts_of}
use Rattle.repo_machine.specs.declared.counts.Counts.{Counts}
use Rattle.migration.specs.Files.{CopiesTo, OnlyRead}
use Rattle.migration.specs.declared.fault.MigrateFault.{MigrateFault}
use Rattle.migration.specs.declared.fault.MigrateFault.TheVariants as faults
use Rattle.command_line.specs.declared.report.Report.{Report}
use Rattle.command_line.specs.declared.report.Report.TheVariants.{Migrated, NotEmpty, DiskFault}
use Rattle.command_line.specs.declared.migrate.Migration.{Migration}
use Rattle.command_line.specs.Making.{Unopened}
use Rattle.command_line.specs.Opening.{OpensIn, RefusesIn}

abbrev pub report_of : {T : Type 0} → Counts → Result T MigrateFault → Report
report_of counts (Ok x) = Migrated counts.entries counts.size
report_of counts (Err (faults.Exists bytes)) = NotEmpty
report_of counts (Err faults.OldFault) = DiskFault
report_of counts (Err faults.NewFault) = DiskFault

-- the target was opened, and this is reported of its disk
pub record ReportsCopy {D : Type 0} (meaning : D → Meaning) (target : List ℕ) (shelf : Option (Shelf D)) (header : Header) (h : List Entry) (first source : Meaning) (report : Report) (disk : D) : Type 0 where
  pub result : Result (Unit {0}) MigrateFault
  pub report_is : report ≡ report_of (counts_of h) result
  pub copies : CopiesTo meaning target shelf header h first source result disk

-- a repository that was opened so, of whose disk this was told once all was read, is copied to the target
pub record CopiesOpened {D : Type 0} (meaning : D → Meaning) (target : List ℕ) (shelf : Option (Shelf D)) (header : Header) (h : List Entry) (journal : JournalView) (read : Meaning) (before after : ℕ) (came : Migration D) : Type 0 where
  pub source : D
  pub source_is : came.other ≡ Some source
  pub only_read : OnlyRead read (meaning source)
  pub opened : IsOpened header h journal (meaning source)
  pub of : MatchOption came.disk (Unopened came.report before after) (ReportsCopy meaning target shelf header h read (meaning source) came.report)

-- the source wasn't opened, or there is no repository in it
pub record FindsNoSource {D : Type 0} (meaning : D → Meaning) (source : List ℕ) (shelf : Option (Shelf D)) (before after : ℕ) (came : Migration D) : Type 0 where
  pub none : came.disk ≡ None
  pub of : MatchOption came.other (Unopened came.report before after) (λ disk. RefusesIn meaning source shelf disk came.report)

-- the repository in it was opened, so that each image of its disk stands for the history since, and it is copied to what the opener has for the target then
pub record CopiesSource {D : Type 0} (meaning : D → Meaning) (source target : List ℕ) (shelf : Option (Shelf D)) (before after : ℕ) (came : Migration D) : Type 0 where
  pub header : Header
  pub history : List Entry
  pub journal : JournalView
  pub disk : D
  pub disk_is : came.other ≡ Some disk
  pub opens : OpensIn meaning source shelf header history journal disk
  pub of : MatchOption came.disk (Unopened came.report before after)
      (ReportsCopy meaning target (option_map (left source false) shelf) header history (meaning opens.first) (meaning disk) came.report)

abbrev pub Migrates : {D : Type 0} → (D → Meaning) → (source target : List ℕ) → Option (Shelf D) → (before after : ℕ) → Migration D → Type 0
Migrates meaning source target shelf before after came =
    FindsNoSource meaning source shelf before after came ⊎ CopiesSource meaning source target shelf before after came
