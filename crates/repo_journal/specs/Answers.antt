-- What the answers of the journal say.
use Rattle.std.specs.Prelude.{◌≡◌, ◌<◌, ℕ, Bool, true, false, length, Result, Ok, Err, ⊤}
use Rattle.std.specs.Option.{ForSome}
use Rattle.disk_model.specs.Meaning.{Meaning}
use Rattle.repo_journal.specs.declared.fault.AppendFault.{AppendFault}
use Rattle.repo_journal.specs.declared.fault.AppendFault.TheVariants.{Full, DiskFault}
use Rattle.repo_journal.specs.declared.fault.InitFault.{InitFault}
use Rattle.repo_journal.specs.declared.fault.InitFault.TheVariants.{Exists, DiskFault as InitDiskFault}
use Rattle.repo_journal.specs.declared.fault.ScanFault.{ScanFault}
use Rattle.repo_journal.specs.declared.fault.ScanFault.TheVariants.{DiskFault as ScanDiskFault, Memory}

abbrev pub is_full_answer : {T : Type 0} → Result T AppendFault → Bool
is_full_answer (Ok x) = false
is_full_answer (Err (Full size n)) = true
is_full_answer (Err DiskFault) = false

abbrev pub is_disk_fault : {T : Type 0} → Result T AppendFault → Bool
is_disk_fault (Ok x) = false
is_disk_fault (Err (Full size n)) = false
is_disk_fault (Err DiskFault) = true

-- the size of the file and the length of the payload
abbrev pub TellsSizes : ℕ → ℕ → AppendFault → Type 0
TellsSizes at n (Full size len) = (size ≡ at) × (len ≡ n)
TellsSizes at n DiskFault = ⊤

abbrev pub is_init_fault : {T : Type 0} → Result T InitFault → Bool
is_init_fault (Ok x) = false
is_init_fault (Err (Exists size)) = false
is_init_fault (Err InitDiskFault) = true

abbrev pub is_exists_answer : {T : Type 0} → Result T InitFault → Bool
is_exists_answer (Ok x) = false
is_exists_answer (Err (Exists size)) = true
is_exists_answer (Err InitDiskFault) = false

-- the file has bytes, as many as it says
abbrev pub TellsBytes : Meaning → InitFault → Type 0
TellsBytes m (Exists size) = (0 < size) × ForSome m.reads (λ file. size ≡ length file)
TellsBytes m InitDiskFault = ⊤

abbrev pub is_scan_fault : {T : Type 0} → Result T ScanFault → Bool
is_scan_fault (Ok x) = false
is_scan_fault (Err ScanDiskFault) = true
is_scan_fault (Err Memory) = false
