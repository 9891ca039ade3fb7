-- What is left of a group whose append failed, by the call of the disk that did.
--     opens cut      the gate may stand open then
--     IsWithout d size image      it keeps the records of an image of d
--     LeavesNone size old new      a crash leaves the records of before, and none of the group
--     HoldsGroup size bytes new      each image has the group's bytes behind the gate
--     IsCutOff cut size bytes old new      what the disk reads, and what a crash leaves, once this call failed
--     BreaksOff bytes old new m after      the journal is broken by a call of the disk in the append of a group, and so it is left
use Rattle.std.specs.Prelude.{◌≡◌, ℕ, ◌-◌, Bool, true, false, IsTrue, List, [], ◌∷◌, length, take, drop, Some}
use Rattle.disk_model.specs.Images.{Disk, IsImage, write_at}
use Rattle.disk_model.specs.Meaning.{Meaning}
use Rattle.repo_journal.specs.Left.{cut_off}
use Rattle.repo_journal.specs.Sealing.{AllClosed, KeepsRecords}
use Rattle.repo_journal.specs.View.{JournalView}
use Rattle.repo_journal.specs.declared.cut.Cut.{Cut}
use Rattle.repo_journal.specs.declared.cut.Cut.TheVariants.{Write, Sync, Open, Seal}

abbrev pub opens : Cut → Bool
opens Write = false
opens Sync = false
opens Open = true
opens Seal = true

abbrev pub IsWithout : Disk → ℕ → List ℕ → Type 0
IsWithout d size image = (before : List ℕ) × IsImage d before × KeepsRecords size before image

abbrev pub LeavesNone : ℕ → Disk → Disk → Type 0
LeavesNone size old new = (image : List ℕ) → IsImage new image → IsWithout old size image

abbrev pub HasGroup : ℕ → List ℕ → List ℕ → Type 0
HasGroup size bytes image = take (length bytes) (drop size image) ≡ bytes

abbrev pub HoldsGroup : ℕ → List ℕ → Disk → Type 0
HoldsGroup size bytes new = (image : List ℕ) → IsImage new image → HasGroup size bytes image

abbrev pub IsCutOff : Cut → ℕ → List ℕ → Disk → Disk → Type 0
IsCutOff Write size bytes old new = (new.reads ≡ old.reads) × LeavesNone size old new
IsCutOff Sync size bytes old new = (new.reads ≡ write_at size bytes old.reads) × LeavesNone size old new
IsCutOff Open size bytes old new = (new.reads ≡ write_at size bytes old.reads) × HoldsGroup size bytes new
IsCutOff Seal size bytes old new = (new.reads ≡ write_at (size - 1) (1 ∷ []) (write_at size bytes old.reads)) × HoldsGroup size bytes new

pub record BreaksOff (bytes : List ℕ) (old new : JournalView) (m after : Meaning) : Type 0 where
  pub cut : Cut
  pub is : new ≡ record old { left = Some (cut_off (length bytes) cut) }
  pub leaves : IsTrue m.honest → AllClosed old.size m.state → IsCutOff cut old.size bytes m.state after.state
