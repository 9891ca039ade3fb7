-- The lines that the program writes.
--     report_text report      the line;  counts_text counts      that of a repository's counts;  migrated_text entries size      that of what was copied;  served_text connections entries      that of what was served;  loaded_text landed entries root      that of what a load came to
--     status_of report      the status of a run that is reported so
--     after_fault status      the status where that line can't be written
--     Reports report status written kept before after      the line is written, or a front of it where the count of faults rose, which the status then says where nothing else is wrong, or a load was refused or a server wasn't followed to its end
use Rattle.std.specs.Prelude.{◌≡◌, ◌⊎◌, ℕ, List, ◌++◌, codes, decimal, Option}
use Rattle.hex.specs.Hex.{encode_lower}
use Rattle.ports.specs.Faults.{Rose}
use Rattle.ports.specs.Streams.{Puts, PutsFront}
use Rattle.program_words.specs.declared.texts.TheConstants.{HELP, USAGE, VERSION}
use Rattle.repo_machine.specs.declared.counts.Counts.{Counts}
use Rattle.command_line.specs.declared.report.Report.{Report}
use Rattle.command_line.specs.declared.report.Report.TheVariants as report
use Rattle.command_line.specs.declared.status.Status.{Status}
use Rattle.command_line.specs.declared.status.Status.TheVariants.{Done, Usage, DiskFault, BadFile, NoMemory, StreamFault, NotEmpty, Cut, Refused, Spent, BadReply, Differs, Full, LoadRefused}

abbrev pub counts_text : Counts → List ℕ
counts_text counts =
    codes "entries " ++ (decimal counts.entries ++ (codes " contents " ++ (decimal counts.contents ++ (codes " changesets " ++ (decimal counts.changesets
    ++ (codes " bookmarks " ++ (decimal counts.bookmarks ++ (codes " size " ++ (decimal counts.size ++ codes "\n")))))))))

abbrev pub migrated_text : (entries size : ℕ) → List ℕ
migrated_text entries size = codes "migrated " ++ (decimal entries ++ (codes " size " ++ (decimal size ++ codes "\n")))

abbrev pub served_text : (connections entries : ℕ) → List ℕ
served_text connections entries = codes "served " ++ (decimal connections ++ (codes " entries " ++ (decimal entries ++ codes "\n")))

abbrev pub loaded_text : (landed entries : ℕ) → List ℕ → List ℕ
loaded_text landed entries root =
    codes "landed " ++ (decimal landed ++ (codes " entries " ++ (decimal entries ++ (codes " root " ++ (encode_lower root ++ codes "\n")))))

abbrev pub report_text : Report → List ℕ
report_text (report.Ready capacity) = codes "ready " ++ (decimal capacity ++ codes "\n")
report_text (report.Counted counts) = counts_text counts
report_text (report.Migrated entries size) = migrated_text entries size
report_text (report.Served connections entries) = served_text connections entries
report_text (report.Loaded landed entries root) = loaded_text landed entries root
report_text report.LoadRefused = codes "load refused\n"
report_text (report.Followed entries) = codes "followed " ++ (decimal entries ++ codes "\n")
report_text (report.BadReply number) = codes "bad reply at " ++ (decimal number ++ codes "\n")
report_text (report.Differs number) = codes "differs at " ++ (decimal number ++ codes "\n")
report_text (report.Full number) = codes "full at " ++ (decimal number ++ codes "\n")
report_text report.Help = HELP.now
report_text report.Version = VERSION.now
report_text report.Usage = USAGE.now
report_text report.DiskFault = codes "disk fault\n"
report_text report.NotARepository = codes "not a repository\n"
report_text report.OldFormat = codes "old format\n"
report_text (report.Damaged at) = codes "damaged at " ++ (decimal at ++ codes "\n")
report_text report.NotEmpty = codes "file is not empty\n"
report_text report.NoMemory = codes "no memory\n"
report_text report.StreamFault = codes "stream fault\n"

abbrev pub status_of : Report → Status
status_of (report.Ready capacity) = Done
status_of (report.Counted counts) = Done
status_of (report.Migrated entries size) = Done
status_of (report.Served connections entries) = Done
status_of (report.Loaded landed entries root) = Done
status_of report.LoadRefused = LoadRefused
status_of (report.Followed entries) = Done
status_of (report.BadReply number) = BadReply
status_of (report.Differs number) = Differs
status_of (report.Full number) = Full
status_of report.Help = Done
status_of report.Version = Done
status_of report.Usage = Usage
status_of report.DiskFault = DiskFault
status_of report.NotARepository = BadFile
status_of report.OldFormat = BadFile
status_of (report.Damaged at) = BadFile
status_of report.NotEmpty = NotEmpty
status_of report.NoMemory = NoMemory
status_of report.StreamFault = StreamFault

-- it is whole, and the status is the report's
pub record IsWhole (report : Report) (status : Status) (written kept : Option (List ℕ)) : Type 0 where
  pub puts : Puts (report_text report) written kept
  pub status_is : status ≡ status_of report

abbrev pub after_fault : Status → Status
after_fault Done = StreamFault
after_fault Usage = Usage
after_fault DiskFault = DiskFault
after_fault BadFile = BadFile
after_fault NoMemory = NoMemory
after_fault StreamFault = StreamFault
after_fault NotEmpty = NotEmpty
after_fault Cut = Cut
after_fault Refused = Refused
after_fault Spent = Spent
after_fault BadReply = StreamFault
after_fault Differs = StreamFault
after_fault Full = StreamFault
after_fault LoadRefused = StreamFault

pub record IsFront (report : Report) (status : Status) (written kept : Option (List ℕ)) (before after : ℕ) : Type 0 where
  pub puts : PutsFront (report_text report) written kept
  pub rose : Rose before after
  pub status_is : status ≡ after_fault (status_of report)

abbrev pub Reports : Report → Status → Option (List ℕ) → Option (List ℕ) → ℕ → ℕ → Type 0
Reports report status written kept before after =
    IsWhole report status written kept ⊎ IsFront report status written kept before after
