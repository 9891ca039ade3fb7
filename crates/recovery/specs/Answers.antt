-- What the answer of opening says of the file.
--     is_disk_fault result      a call of the disk failed
--     OpensAs header h file      the file opens as this history, and stands for it with this header
--     IsRefused file fault      the fault is the one that opening finds in the file, if it tells one of it
--     TellsNothing fault      it is no fault of the file
use Rattle.std.specs.Prelude.{◌≡◌, ℕ, Bool, true, false, List, Result, Ok, Err}
use Rattle.history_model.specs.History.{Entry}
use Rattle.history_model.specs.Journal.{Header, Stands}
use Rattle.reply_model.specs.Opening.{opens}
use Rattle.reply_model.specs.Opening as model
use Rattle.recovery.specs.declared.fault.OpenFault.{OpenFault}
use Rattle.recovery.specs.declared.fault.OpenFault.TheVariants.{NotARepository, Damaged, DiskFault, Memory}

abbrev pub is_disk_fault : {T : Type 0} → Result T OpenFault → Bool
is_disk_fault (Ok x) = false
is_disk_fault (Err NotARepository) = false
is_disk_fault (Err (Damaged at)) = false
is_disk_fault (Err DiskFault) = true
is_disk_fault (Err Memory) = false

pub record OpensAs (header : Header) (h : List Entry) (file : List ℕ) : Type 0 where
  pub opens_is : opens file ≡ Ok h
  pub stands : Stands header file h

abbrev pub IsRefused : List ℕ → OpenFault → Type 0
IsRefused file NotARepository = opens file ≡ Err model.NotARepository
IsRefused file (Damaged at) = opens file ≡ Err (model.Damaged at)
IsRefused file DiskFault = Unit {0}
IsRefused file Memory = Unit {0}

abbrev pub TellsNothing : OpenFault → Type 0
TellsNothing NotARepository = ⊥
TellsNothing (Damaged at) = ⊥
TellsNothing DiskFault = Unit {0}
TellsNothing Memory = Unit {0}
