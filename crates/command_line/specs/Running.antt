-- What a run of the program does, by what its words ask for.
--     RunsLine report ..      the report's line is written, and no file is opened
--     RunsInit meaning file capacity .., RunsFsck meaning file ..      what is reported of the file of this name
--     RunsMigrate meaning source target ..      what is reported of the files of these names, of which the target's disk is the run's, and the source's the other one
--     RunsSession meaning tells file ..      one connection is served on the repository in it, by a clock that tells such moments, or it wasn't opened and nothing is written
--     RunsServe meaning file lanes connections ..      connections are served on the repository in it
--     RunsFollow meaning file ..      the server to which the accept gives a link is followed into the repository in it
--     RunsGen seed stacks clients ..      a load is made in memory, and no file is opened
--     LacksMemory request ..      there was no memory to read the words;  Runs meaning tells request ..      by what is asked for
--     OpensOnly file create ..      the file of this name alone was taken out;  OpensBoth source target ..      the files of these names alone
--     takes_links request      the command takes links;  makes_load request      it makes a load;  opens_other request      it opens another file;  follows_server request      it follows a server
use Rattle.std.specs.Prelude.{◌≡◌, ◌⊎◌, ℕ, Bool, true, false, is_none, List, Option, None, Some, MatchOption}
use Rattle.ports.specs.Faults.{Counts, Rose}
use Rattle.ports.specs.Openers.{Shelf}
use Rattle.disk_model.specs.Meaning.{Meaning}
use Rattle.blob_disk.specs.declared.mem_disk.MemDisk.{MemDisk}
use Rattle.history_model.specs.History.{Entry}
use Rattle.history_model.specs.Journal.{Header}
use Rattle.repo_journal.specs.View.{JournalView}
use Rattle.program_words.specs.Words.{Request, follow, fsck, gen, help, init, migrate, serve, session, version}
use Rattle.program_words.specs.Sessions.{is_session}
use Rattle.command_line.specs.declared.report.Report.{Report}
use Rattle.command_line.specs.declared.report.Report.TheVariants as report
use Rattle.command_line.specs.declared.status.Status.{Status}
use Rattle.command_line.specs.declared.status.Status.TheVariants.{DiskFault, NoMemory}
use Rattle.command_line.specs.Counting.{ChecksIn}
use Rattle.command_line.specs.Followed.{FollowsFile, FollowsOpened}
use Rattle.command_line.specs.Making.{AttemptsIn, Unopened}
use Rattle.command_line.specs.Migrating.{Migrates}
use Rattle.command_line.specs.Opening.{IsGiven, RefusesIn, Unharmed}
use Rattle.command_line.specs.Reports.{Reports, status_of}
use Rattle.command_line.specs.declared.came.Came.{Came}
use Rattle.command_line.specs.Loading.{Loads}
use Rattle.command_line.specs.Outside.{Links, Outside, Peer, TakesNone, Told, taken_from}
use Rattle.command_line.specs.Sessions.{ServesFile}
use Rattle.command_line.specs.Serving.{ServesOpened, ServesRepository}

-- the line, or a front of it only where the link's count rose. No input is read
pub record Writes (report : Report) (status : Status) (old new : Told) : Type 0 where
  pub reports : Reports report status old.written new.written old.faults new.faults
  pub unread : new.rest ≡ old.rest

-- no file is opened
pub record RunsAlone {D : Type 0} (Does : Status → Told → Told → Type 0) (old new : Outside D) (ran : Came D) : Type 0 where
  pub does : Does ran.status old.link new.link
  pub none : ran.disk ≡ None
  pub shelf : new.shelf ≡ old.shelf
  pub unopened : new.unopened ≡ old.unopened

abbrev pub RunsLine : {D : Type 0} → Report → Outside D → Outside D → Came D → Type 0
RunsLine report old new ran = RunsAlone (Writes report) old new ran

-- without memory for the words: a session writes no line
abbrev pub LacksLine : (is_session : Bool) → Status → Told → Told → Type 0
LacksLine true status old new = (status ≡ NoMemory) × (new ≡ old)
LacksLine false status old new = Writes report.NoMemory status old new

-- a line is written of the file that was opened, or of one that the opener failed to open
pub record RunsOn {D : Type 0} (Of : D → Report → Type 0) (old new : Outside D) (ran : Came D) : Type 0 where
  pub report : Report
  pub writes : Writes report ran.status old.link new.link
  pub of : MatchOption ran.disk (Unopened report old.unopened new.unopened) (λ disk. Of disk report)

abbrev pub RunsInit : {D : Type 0} → (D → Meaning) → List ℕ → ℕ → Outside D → Outside D → Came D → Type 0
RunsInit meaning file capacity old new ran = RunsOn (λ disk report. AttemptsIn meaning file capacity old.shelf disk report) old new ran

abbrev pub RunsFsck : {D : Type 0} → (D → Meaning) → List ℕ → Outside D → Outside D → Came D → Type 0
RunsFsck meaning file old new ran = RunsOn (λ disk report. ChecksIn meaning file old.shelf disk report) old new ran

pub record RunsMigrate {D : Type 0} (meaning : D → Meaning) (source target : List ℕ) (old new : Outside D) (ran : Came D) (other : Option D) : Type 0 where
  pub report : Report
  pub writes : Writes report ran.status old.link new.link
  pub migrates : Migrates meaning source target old.shelf old.unopened new.unopened (record { report = report; disk = ran.disk; other = other })

-- ---- a session

pub record FindsNoFile {D : Type 0} (old new : Outside D) (ran : Came D) : Type 0 where
  pub none : ran.disk ≡ None
  pub status_is : ran.status ≡ DiskFault
  pub rose : Rose old.unopened new.unopened
  pub silent : new.link ≡ old.link

pub record FindsNoRepository {D : Type 0} (meaning : D → Meaning) (file : List ℕ) (old new : Outside D) (ran : Came D) : Type 0 where
  pub disk : D
  pub disk_is : ran.disk ≡ Some disk
  pub report : Report
  pub refuses : RefusesIn meaning file old.shelf disk report
  pub status_is : ran.status ≡ status_of report
  pub silent : new.link ≡ old.link

abbrev pub RunsSession : {D : Type 0} → (D → Meaning) → (ℕ → Type 0) → List ℕ → Outside D → Outside D → Came D → Type 0
RunsSession meaning tells file old new ran = FindsNoFile old new ran ⊎ FindsNoRepository meaning file old new ran ⊎ ServesFile meaning tells file old.shelf old.link new.link ran

-- ---- connections

-- what isn't opened is reported as `fsck` reports it
pub record OpensNone {D : Type 0} (meaning : D → Meaning) (file : List ℕ) (old new : Outside D) (links : Links) (ran : Came D) : Type 0 where
  pub on : RunsOn (λ disk report. RefusesIn meaning file old.shelf disk report) old new ran
  pub untaken : TakesNone links

-- there was no memory to begin, and the disk is told as it was once all was read
pub record LacksLanesOn {D : Type 0} (meaning : D → Meaning) (read : Meaning) (old new : Told) (links : Links) (ran : Came D) : Type 0 where
  pub writes : Writes report.NoMemory ran.status old new
  pub disk : D
  pub disk_is : ran.disk ≡ Some disk
  pub still : meaning disk ≡ read
  pub untaken : TakesNone links

-- there was no memory to begin, and the file is as it was opened
pub record LacksLanes {D : Type 0} (meaning : D → Meaning) (file : List ℕ) (shelf : Option (Shelf D)) (old new : Told) (links : Links) (ran : Came D) : Type 0 where
  pub writes : Writes report.NoMemory ran.status old new
  pub disk : D
  pub disk_is : ran.disk ≡ Some disk
  pub first : D
  pub gives : IsGiven file shelf first
  pub unharmed : Unharmed (meaning first) (meaning disk)
  pub untaken : TakesNone links

-- the end is reported
pub record Ends {D : Type 0} (As : Report → Option D → Type 0) (old new : Told) (ran : Came D) : Type 0 where
  pub report : Report
  pub writes : Writes report ran.status old new
  pub ends : As report ran.disk

abbrev pub RunsOpened : {D : Type 0} → (D → Meaning) → Header → List Entry → JournalView → Meaning → (lanes connections : ℕ) → Told → Told → Links → Came D → Type 0
RunsOpened meaning header opened journal read lanes connections old new links ran =
    LacksLanesOn meaning read old new links ran ⊎ Ends (ServesOpened meaning header opened journal read lanes connections links) old new ran

abbrev pub RunsServe : {D : Type 0} → (D → Meaning) → List ℕ → (lanes connections : ℕ) → Outside D → Outside D → Links → Came D → Type 0
RunsServe meaning file lanes connections old new links ran =
    OpensNone meaning file old new links ran ⊎ LacksLanes meaning file old.shelf old.link new.link links ran ⊎ Ends (ServesRepository meaning file old.shelf lanes connections links) old.link new.link ran

-- ---- a server that is followed

abbrev pub RunsOpenedOn : {D K : Type 0} → (D → Meaning) → Header → List Entry → JournalView → Meaning → Told → Told → Links → Peer K → Came D → Type 0
RunsOpenedOn meaning header opened journal read old new links peer ran = Ends (FollowsOpened meaning header opened journal read links peer) old new ran

-- what isn't opened is reported as `fsck` reports it, and no link is taken
pub record OpensUnfollowed {D K : Type 0} (meaning : D → Meaning) (file : List ℕ) (old new : Outside D) (links : Links) (peer : Peer K) (ran : Came D) : Type 0 where
  pub opens : OpensNone meaning file old new links ran
  pub unlinked : peer.left ≡ None

abbrev pub RunsFollow : {D K : Type 0} → (D → Meaning) → List ℕ → Outside D → Outside D → Links → Peer K → Came D → Type 0
RunsFollow meaning file old new links peer ran =
    OpensUnfollowed meaning file old new links peer ran ⊎ Ends (FollowsFile meaning file old.shelf links peer) old.link new.link ran

-- ---- a load

-- it is reported, and the disk that it left is handed out
pub record ReportsLoad (seed stacks clients : ℕ) (load : Option MemDisk) (status : Status) (old new : Told) : Type 0 where
  pub report : Report
  pub writes : Writes report status old new
  pub loads : Loads seed stacks clients report load

abbrev pub RunsGen : {D : Type 0} → (seed stacks clients : ℕ) → Outside D → Outside D → Came D → Option MemDisk → Type 0
RunsGen seed stacks clients old new ran load = RunsAlone (ReportsLoad seed stacks clients load) old new ran

-- ---- the shelf

-- where it wasn't opened, the opener's count of faults rose
pub record OpensOnly {D : Type 0} (file : List ℕ) (create : Bool) (old new : Outside D) (disk : Option D) : Type 0 where
  pub shelf : new.shelf ≡ taken_from file create disk old.shelf
  pub unopened : Counts old.unopened new.unopened (is_none disk)

-- the source, and then the target, which is made where there is none
pub record OpensBoth {D : Type 0} (source target : List ℕ) (old new : Outside D) (disk other : Option D) : Type 0 where
  pub shelf : new.shelf ≡ taken_from target true disk (taken_from source false other old.shelf)
  pub unopened : Counts old.unopened new.unopened (is_none other)

-- ---- all words

abbrev pub takes_links : Option Request → Bool
takes_links (Some (init file capacity)) = false
takes_links (Some (session file)) = false
takes_links (Some (serve file address lanes derivers connections)) = true
takes_links (Some (fsck file)) = false
takes_links (Some (migrate source target)) = false
takes_links (Some (gen seed stacks clients)) = false
takes_links (Some (follow file address)) = true
takes_links (Some help) = false
takes_links (Some version) = false
takes_links None = false

abbrev pub makes_load : Option Request → Bool
makes_load (Some (init file capacity)) = false
makes_load (Some (session file)) = false
makes_load (Some (serve file address lanes derivers connections)) = false
makes_load (Some (fsck file)) = false
makes_load (Some (migrate source target)) = false
makes_load (Some (gen seed stacks clients)) = true
makes_load (Some (follow file address)) = false
makes_load (Some help) = false
makes_load (Some version) = false
makes_load None = false

abbrev pub opens_other : Option Request → Bool
opens_other (Some (init file capacity)) = false
opens_other (Some (session file)) = false
opens_other (Some (serve file address lanes derivers connections)) = false
opens_other (Some (fsck file)) = false
opens_other (Some (migrate source target)) = true
opens_other (Some (gen seed stacks clients)) = false
opens_other (Some (follow file address)) = false
opens_other (Some help) = false
opens_other (Some version) = false
opens_other None = false

abbrev pub follows_server : Option Request → Bool
follows_server (Some (init file capacity)) = false
follows_server (Some (session file)) = false
follows_server (Some (serve file address lanes derivers connections)) = false
follows_server (Some (fsck file)) = false
follows_server (Some (migrate source target)) = false
follows_server (Some (gen seed stacks clients)) = false
follows_server (Some (follow file address)) = true
follows_server (Some help) = false
follows_server (Some version) = false
follows_server None = false

pub record LacksMemory {D K : Type 0} (request : Option Request) (old new : Outside D) (links : Links) (peer : Peer K) (ran : Came D) (load : Option MemDisk) (other : Option D) : Type 0 where
  pub line : RunsAlone (LacksLine (is_session request)) old new ran
  pub untaken : TakesNone links
  pub unloaded : load ≡ None
  pub single : other ≡ None
  pub unlinked : peer.left ≡ None

abbrev pub Runs : {D K : Type 0} → (D → Meaning) → (ℕ → Type 0) → Option Request → Outside D → Outside D → Links → Peer K → Came D → Option MemDisk → Option D → Type 0
Runs meaning tells (Some (init file capacity)) old new links peer ran load other = RunsInit meaning file capacity old new ran × OpensOnly file true old new ran.disk
Runs meaning tells (Some (session file)) old new links peer ran load other = RunsSession meaning tells file old new ran × OpensOnly file false old new ran.disk
Runs meaning tells (Some (serve file address lanes derivers connections)) old new links peer ran load other = RunsServe meaning file lanes connections old new links ran × OpensOnly file false old new ran.disk
Runs meaning tells (Some (fsck file)) old new links peer ran load other = RunsFsck meaning file old new ran × OpensOnly file false old new ran.disk
Runs meaning tells (Some (migrate source target)) old new links peer ran load other = RunsMigrate meaning source target old new ran other × OpensBoth source target old new ran.disk other
Runs meaning tells (Some (gen seed stacks clients)) old new links peer ran load other = RunsGen seed stacks clients old new ran load
Runs meaning tells (Some (follow file address)) old new links peer ran load other = RunsFollow meaning file old new links peer ran × OpensOnly file false old new ran.disk
Runs meaning tells (Some help) old new links peer ran load other = RunsLine report.Help old new ran
Runs meaning tells (Some version) old new links peer ran load other = RunsLine report.Version old new ran
Runs meaning tells None old new links peer ran load other = RunsLine report.Usage old new ran
