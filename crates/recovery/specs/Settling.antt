-- What opening does to a disk.
--     Spares old new failed      a crash leaves nothing that it couldn't have left before, and reads give the same. The last call may have failed
--     HasBegun size moment faults old new      what is told once the file is stable
use Rattle.std.specs.Prelude.{◌≡◌, ℕ, ◌-◌, ◌≤◌, ◌^◌, Bool, IsTrue, List, length}
use Rattle.ports.specs.Faults.{Counts}
use Rattle.disk_model.specs.Images.{IsImage}
use Rattle.disk_model.specs.Meaning.{Meaning, IsLong}
use Rattle.disk_model.specs.Calls.{Kept, LeavesOnly, NextMoment, Within}

pub record Spares (old new : Meaning) (failed : Bool) : Type 0 where
  pub reads : IsTrue old.honest → Within new.state old.state
  pub crash : IsTrue old.honest → LeavesOnly (IsImage old.state) old new
  pub kept : Kept old new
  pub faults : Counts old.faults new.faults failed

pub record HasBegun (size moment faults : ℕ) (old new : Meaning) : Type 0 where
  pub long : IsLong new.reads size
  pub whole : IsTrue old.honest → size ≡ length old.state.reads
  -- a crash leaves what reads give
  pub stable : IsTrue old.honest → (image : List ℕ) → IsImage new.state image → image ≡ old.state.reads
  pub moment_is : moment ≡ new.moment
  pub faults_is : faults ≡ new.faults
  pub most : new.faults ≤ 2 ^ 64 - 1
  -- nothing but the sync was a moment, and no call failed
  pub next : NextMoment old new
