-- A seal in three steps, between which the disk is read.
--     StandsAt at size bytes old new      what the disk reads, and what a crash leaves, with the seal of a group at this stage
--     UnderWay at size bytes m now      what is so of a group at this stage, which was begun when the disk was m
--     Leaves size bytes m old new      a crash since the group was begun, or in this step, leaves the records without the group or all of it
--     CutsOff at size bytes cut now after      a call of the disk failed in the step behind this stage, and so the group is left
--     IsNextCut at cut      the call is one of that step
--     StopsAt at old new now after      a step failed, and with it the journal
use Rattle.std.specs.Prelude.{◌≡◌, ◌⊎◌, ℕ, ◌+◌, IsTrue, List, length}
use Rattle.disk_model.specs.Images.{Disk, IsImage}
use Rattle.disk_model.specs.Meaning.{Meaning, IsLong, IsSound}
use Rattle.disk_model.specs.Calls.{Kept, LeavesOnly}
use Rattle.repo_journal.specs.Cuts.{IsCutOff}
use Rattle.repo_journal.specs.Groups.{AppendsGroup, IsWithoutOrWith}
use Rattle.repo_journal.specs.Left.{left_at}
use Rattle.repo_journal.specs.Sealing.{AllClosed}
use Rattle.repo_journal.specs.View.{JournalView}
use Rattle.repo_journal.specs.declared.cut.Cut.{Cut}
use Rattle.repo_journal.specs.declared.cut.Cut.TheVariants.{Sync, Open, Seal}
use Rattle.repo_journal.specs.declared.left.At.{At}
use Rattle.repo_journal.specs.declared.left.At.TheVariants as stages

-- while it is written it is as if the sync of it had failed, and with the gate as if the last sync had
abbrev pub StandsAt : At → ℕ → List ℕ → Disk → Disk → Type 0
StandsAt stages.Laid size bytes old new = IsCutOff Sync size bytes old new
StandsAt stages.Opened size bytes old new = IsCutOff Seal size bytes old new
StandsAt (stages.Cut cut) size bytes old new = IsCutOff cut size bytes old new

pub record UnderWay (at : At) (size : ℕ) (bytes : List ℕ) (m now : Meaning) : Type 0 where
  pub sound : IsSound m
  pub kept : Kept m now
  pub long : IsLong m.reads size
  pub reaches : IsLong now.reads (size + length bytes)
  pub closed : IsTrue m.honest → AllClosed size m.state
  pub appends : IsTrue m.honest → AppendsGroup size bytes m now
  pub stands : IsTrue m.honest → StandsAt at size bytes m.state now.state

pub record Leaves (size : ℕ) (bytes : List ℕ) (m old new : Meaning) : Type 0 where
  pub appends : AppendsGroup size bytes m new
  pub since : LeavesOnly (IsWithoutOrWith m.state size bytes) old new

abbrev pub CutsOff : At → ℕ → Cut → Meaning → Meaning → Type 0
CutsOff at size cut now after = (m : Meaning) (bytes : List ℕ) → UnderWay at size bytes m now → IsTrue m.honest → IsCutOff cut size bytes m.state after.state

-- the calls of that step
abbrev pub IsNextCut : At → Cut → Type 0
IsNextCut stages.Laid cut = (cut ≡ Sync) ⊎ (cut ≡ Open)
IsNextCut stages.Opened cut = cut ≡ Seal
IsNextCut (stages.Cut first) cut = ⊥

pub record StopsAt (at : At) (old new : JournalView) (now after : Meaning) : Type 0 where
  pub cut : Cut
  pub is : new ≡ record old { left = left_at (stages.Cut cut) old.left }
  pub next : IsNextCut at cut
  -- a sync that failed leaves nothing new
  pub time : cut ≡ Sync → LeavesOnly (IsImage after.state) now after
  pub leaves : CutsOff at old.size cut now after
