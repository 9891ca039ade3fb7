-- Copying an opened repository to the file of a name.
--     OnlyRead old new      what copying does to the disk of the repository
--     Copies header h first source old new result      what the answer says of the copy, and what is left of the copy's disk
--     CopiesTo meaning name shelf header h first source result disk      so it is, of the disk that an opener tells for the name
use Rattle.std.specs.Prelude.{◌≡◌, ◌<◌, ◌≤◌, ℕ, false, true, IsSome, IsTrue, List, [], length, Option, Some, Result, Ok, Err}
use Rattle.std.specs.Option.{ForSome}
use Rattle.ports.specs.Faults.{Rose}
use Rattle.ports.specs.Openers.{Shelf, given}
use Rattle.disk_model.specs.Images.{IsImage}
use Rattle.disk_model.specs.Meaning.{Meaning, IsLong}
use Rattle.disk_model.specs.Calls.{Kept, LeavesOnly, Looked}
use Rattle.history_model.specs.History.{Entry}
use Rattle.history_model.specs.Journal.{Header, Keeps, size}
use Rattle.reply_model.specs.Legal.{IsLegal}
use Rattle.migration.specs.Answers.{is_new_fault, is_old_fault}
use Rattle.migration.specs.Copying.{IsUnfinished, LeavesEach, copied, in_second, records_in}
use Rattle.migration.specs.declared.fault.MigrateFault.{MigrateFault}
use Rattle.migration.specs.declared.fault.MigrateFault.TheVariants.{Exists, OldFault, NewFault}

-- reads give the same, and a crash left nothing else
pub record OnlyRead (old new : Meaning) : Type 0 where
  pub looked : Looked old new
  pub kept : Kept old new
  pub time : IsTrue old.honest → LeavesOnly (IsImage new.state) old new
  pub grows : old.faults ≤ new.faults

-- the file was empty, and each image stands for the history, which is legal in the second version
pub record IsCopied (header : Header) (h : List Entry) (source old new : Meaning) : Type 0 where
  pub empty : ForSome old.reads (λ file. length file ≡ 0)
  pub legal : IsLegal (in_second header.capacity) h
  pub stands : IsTrue source.honest → IsTrue old.honest → Keeps (in_second header.capacity) (IsImage new.state) h
  pub long : IsLong new.reads (size h)

-- the file has so many bytes, and stays as it was
pub record IsUsed (bytes : ℕ) (old new : Meaning) : Type 0 where
  pub some : 0 < bytes
  pub bytes_is : ForSome old.reads (λ file. bytes ≡ length file)
  pub looked : Looked old new
  pub time : LeavesOnly (IsImage new.state) old new

-- a fault is that of a disk whose count rose
abbrev pub Tells : {T : Type 0} → Header → List Entry → (first source old new : Meaning) → Result T MigrateFault → Type 0
Tells header h first source old new (Ok x) = IsCopied header h source old new
Tells header h first source old new (Err (Exists bytes)) = IsUsed bytes old new
Tells header h first source old new (Err OldFault) = Rose first.faults source.faults
Tells header h first source old new (Err NewFault) = Rose old.faults new.faults

pub record Copies {T : Type 0} (header : Header) (h : List Entry) (first source old new : Meaning) (result : Result T MigrateFault) : Type 0 where
  pub tells : Tells header h first source old new result
  pub quiet : ForSome old.quiet (λ most. size h ≤ most → is_new_fault result ≡ false)
  pub source_quiet : IsSome source.quiet → is_old_fault result ≡ false
  -- a crash at any moment leaves no other history
  pub crash : IsTrue source.honest → IsTrue old.honest → old.state.reads ≡ [] → LeavesEach (IsUnfinished (copied header.capacity (records_in (size h) source.state.reads))) old new
  pub kept : Kept old new
  pub grows : old.faults ≤ new.faults

pub record CopiesTo {T D : Type 0} (meaning : D → Meaning) (name : List ℕ) (shelf : Option (Shelf D)) (header : Header) (h : List Entry) (first source : Meaning) (result : Result T MigrateFault) (disk : D) : Type 0 where
  pub given_disk : D
  pub gives : ForSome shelf (λ s. given name true s ≡ Some given_disk)
  pub copies : Copies header h first source (meaning given_disk) (meaning disk) result
