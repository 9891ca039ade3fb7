-- What the calls of a disk do to its meaning.
--     Kept old new      what each call keeps;  Looked old new      a call that changes nothing
--     Did call old new      a write or a sync by the model, done or failed
--     next_moment m      the number of the moment after this one
--     SameMoment old new, NextMoment old new      it is still this moment, or the next one, and no more calls have failed
--     LeavesOnly P old new      a crash at a moment after old left what has P
use Rattle.std.specs.Prelude.{◌≡◌, ◌⊎◌, ℕ, ◌+◌, ◌≤◌, if◌then◌else◌, is_some, IsTrue, List}
use Rattle.disk_model.specs.Images.{Disk, DiskCall, Writes, Syncs, holding, after_write, after_call, IsImage}
use Rattle.disk_model.specs.Meaning.{Meaning, IsLong, LeftSince}

-- what every call keeps
pub record Kept (old new : Meaning) : Type 0 where
  pub honest : new.honest ≡ old.honest
  pub quiet : new.quiet ≡ old.quiet
  -- where reads are told, the file gets no shorter
  pub no_shorter : (n : ℕ) → IsLong old.reads n → IsLong new.reads n
  -- moments that were told stay told
  pub later : old.moment ≤ new.moment
  pub told : is_some new.past ≡ is_some old.past
  pub remembers : (t : ℕ) (image : List ℕ) → LeftSince old t image → LeftSince new t image

abbrev pub next_moment : Meaning → ℕ
next_moment m = if is_some m.past then m.moment + 1 else m.moment

pub record SameMoment (old new : Meaning) : Type 0 where
  pub moment_is : new.moment ≡ old.moment
  pub faults_is : new.faults ≡ old.faults

pub record NextMoment (old new : Meaning) : Type 0 where
  pub moment_is : new.moment ≡ next_moment old
  pub faults_is : new.faults ≡ old.faults

-- Since old, a crash left nothing but what has P.
pub record LeavesOnly (P : List ℕ → Type 0) (old new : Meaning) : Type 0 where
  pub since : (t : ℕ) (image : List ℕ) → t ≤ old.moment → LeftSince new t image → LeftSince old t image ⊎ P image

abbrev pub Looked : Meaning → Meaning → Type 0
Looked old new = IsTrue old.honest → new.state ≡ old.state

-- reads give the same, and a crash may leave no more
pub record Within (inner outer : Disk) : Type 0 where
  pub reads : inner.reads ≡ outer.reads
  pub images : (image : List ℕ) → IsImage inner image → IsImage outer image

-- what a call has done for sure. A write that failed may have done nothing
abbrev pub surely_after : Disk → DiskCall → Disk
surely_after d (Writes at bytes done) = if done then after_write at bytes d else d
surely_after d (Syncs done) = if done then holding d.reads else d

-- A crash may leave no more than the model says, and no less than what was done for sure.
pub record DidBy (call : DiskCall) (old new : Disk) : Type 0 where
  pub most : Within new (after_call old call)
  pub least : Within (surely_after old call) new

abbrev pub Did : DiskCall → Meaning → Meaning → Type 0
Did call old new = IsTrue old.honest → DidBy call old.state new.state
