-- A server that is followed into the repository in a file.
--     report_of entries end      what is reported of the end, where so many stored entries are sealed
--     FollowsLink opening opened before read m tells link left report      it was followed over this link, which is left so, into a repository that was opened so, of whose entries so many were sealed; the disk was told so before, and so since
--     AsksLink opening opened before read m links peer report      the accept was asked once for a link to it
--     FollowsOn version opening opened before read m links peer report      by the version of the file
--     FollowsOpened meaning header opened journal read links peer report left      into an opened repository, whose disk was told so once all was read
--     FollowsFile meaning file shelf links peer report left      into the repository in the file that an opener tells for the name
use Rattle.std.specs.Prelude.{◌≡◌, ◌≢◌, ◌||◌, ℕ, if◌then◌else◌, List, length, Option, None, Some, IfOk, IfSome, Result, Ok, Err, is_err}
use Rattle.ports.specs.Accepts.{is_end, is_link}
use Rattle.ports.specs.Faults.{Counts, Rose}
use Rattle.ports.specs.Memory.{raised}
use Rattle.ports.specs.Openers.{Shelf}
use Rattle.ports.specs.declared.failed.Failed.{Failed}
use Rattle.disk_model.specs.Meaning.{Meaning}
use Rattle.disk_model.specs.Meaning as disks
use Rattle.changeset_model.specs.Version.{Version, First, Second}
use Rattle.history_model.specs.History.{Entry, bodies}
use Rattle.history_model.specs.Journal.{Header}
use Rattle.repo_journal.specs.View.{JournalView}
use Rattle.bookmark_lock.specs.Opening.{Opening}
use Rattle.repo_state.specs.State.{IsSound, opening_of}
use Rattle.follower.specs.Left.{HasFollowed}
use Rattle.follower.specs.declared.followed.FollowEnd.{FollowEnd}
use Rattle.follower.specs.declared.followed.FollowEnd.TheVariants as ends
use Rattle.command_line.specs.declared.report.Report.{Report}
use Rattle.command_line.specs.declared.report.Report.TheVariants as reports
use Rattle.command_line.specs.Opening.{IsGiven, Opens}
use Rattle.command_line.specs.Outside.{Links, Peer, TakesNone, Told}

abbrev pub report_of : ℕ → FollowEnd → Report
report_of entries ends.Same = reports.Followed entries
report_of entries ends.LinkFault = reports.StreamFault
report_of entries (ends.BadReply number) = reports.BadReply number
report_of entries (ends.Differs number) = reports.Differs number
report_of entries (ends.Full number) = reports.Full number
report_of entries ends.DiskFault = reports.DiskFault
report_of entries ends.OldFormat = reports.OldFormat
report_of entries ends.Memory = reports.NoMemory

pub record FollowsLink {K : Type 0} (opening : Opening) (opened : List Entry) (before : ℕ) (read m : Meaning) (tells : K → Told) (link : K) (left : Option K) (report : Report) : Type 0 where
  pub after : K
  pub left_is : left ≡ Some after
  pub end : FollowEnd
  -- what is stored then, and how many of its entries are sealed
  pub history : List Entry
  pub sealed : ℕ
  pub followed : HasFollowed opening opened before (tells link).rest history sealed m end
  -- up to where a crash leaves entries that wait
  pub reach : ℕ
  pub sound : IsSound opening history sealed reach m
  pub report_is : report ≡ report_of sealed end
  pub current : end ≢ ends.OldFormat
  pub link_fault : end ≡ ends.LinkFault → Rose (tells link).faults (tells after).faults
  pub disk_fault : end ≡ ends.DiskFault → Rose read.faults m.faults

-- no link was taken, and the disk is as it was
pub record TakesNoLink {K : Type 0} (read m : Meaning) (left : Option K) (report wanted : Report) : Type 0 where
  pub none : left ≡ None
  pub untouched : m ≡ read
  pub report_is : report ≡ wanted

-- the accept was asked once
pub record Answered {K : Type 0} (links : Links) (next : Option (Option K)) (answer : Result (Option K) Failed) : Type 0 where
  pub link : IfOk answer (λ link. IfSome next (λ told. link ≡ told))
  pub given : links.after.given ≡ (if is_link answer then raised links.before.given else links.before.given)
  pub over : links.after.over ≡ (links.before.over || is_end answer)
  pub faults : Counts links.before.faults links.after.faults (is_err answer)
  pub unserved : links.served ≡ 0

-- where no link comes, the entry in question is the next one
abbrev pub FollowsBy : {K : Type 0} → Opening → List Entry → ℕ → (read m : Meaning) → Peer K → Report → Result (Option K) Failed → Type 0
FollowsBy opening opened before read m peer report (Ok (Some link)) = FollowsLink opening opened before read m peer.tells link peer.left report
FollowsBy opening opened before read m peer report (Ok None) = TakesNoLink read m peer.left report (reports.BadReply before)
FollowsBy opening opened before read m peer report (Err e) = TakesNoLink read m peer.left report reports.StreamFault

pub record AsksLink {K : Type 0} (opening : Opening) (opened : List Entry) (before : ℕ) (read m : Meaning) (links : Links) (peer : Peer K) (report : Report) : Type 0 where
  pub answer : Result (Option K) Failed
  pub answered : Answered links peer.next answer
  pub follows : FollowsBy opening opened before read m peer report answer

-- the accept isn't asked
pub record RefusesOld {K : Type 0} (read m : Meaning) (links : Links) (left : Option K) (report : Report) : Type 0 where
  pub untaken : TakesNone links
  pub refuses : TakesNoLink read m left report reports.OldFormat

abbrev pub FollowsOn : {K : Type 0} → Version → Opening → List Entry → ℕ → (read m : Meaning) → Links → Peer K → Report → Type 0
FollowsOn First opening opened before read m links peer report = RefusesOld read m links peer.left report
FollowsOn Second opening opened before read m links peer report = AsksLink opening opened before read m links peer report

-- all that was opened is sealed
pub record FollowsOpened {D K : Type 0} (meaning : D → Meaning) (header : Header) (opened : List Entry) (journal : JournalView) (read : Meaning) (links : Links) (peer : Peer K) (report : Report) (left : Option D) : Type 0 where
  pub disk : D
  pub disk_is : left ≡ Some disk
  pub whole : disks.IsSound (meaning disk)
  pub follows : FollowsOn header.version (opening_of header journal.opening read) opened (length (bodies opened)) read (meaning disk) links peer report

pub record FollowsFile {D K : Type 0} (meaning : D → Meaning) (file : List ℕ) (shelf : Option (Shelf D)) (links : Links) (peer : Peer K) (report : Report) (left : Option D) : Type 0 where
  -- the disk as the opener gave it, and as it was told once all was read
  pub first : D
  pub gives : IsGiven file shelf first
  pub read : Meaning
  pub header : Header
  pub opened : List Entry
  pub journal : JournalView
  pub opens : Opens header opened journal (meaning first) read
  pub follows : FollowsOpened meaning header opened journal read links peer report left
