-- What the answers of a migration say.
use Rattle.std.specs.Prelude.{◌≡◌, ◌<◌, Bool, true, false, length, Result, Ok, Err, ⊤}
use Rattle.std.specs.Option.{ForSome}
use Rattle.disk_model.specs.Meaning.{Meaning}
use Rattle.migration.specs.declared.fault.MigrateFault.{MigrateFault}
use Rattle.migration.specs.declared.fault.MigrateFault.TheVariants.{Exists, OldFault, NewFault}

abbrev pub is_exists_answer : {T : Type 0} → Result T MigrateFault → Bool
is_exists_answer (Ok x) = false
is_exists_answer (Err (Exists size)) = true
is_exists_answer (Err OldFault) = false
is_exists_answer (Err NewFault) = false

abbrev pub is_old_fault : {T : Type 0} → Result T MigrateFault → Bool
is_old_fault (Ok x) = false
is_old_fault (Err (Exists size)) = false
is_old_fault (Err OldFault) = true
is_old_fault (Err NewFault) = false

abbrev pub is_new_fault : {T : Type 0} → Result T MigrateFault → Bool
is_new_fault (Ok x) = false
is_new_fault (Err (Exists size)) = false
is_new_fault (Err OldFault) = false
is_new_fault (Err NewFault) = true

-- the file has bytes, as many as it says
abbrev pub TellsBytes : Meaning → MigrateFault → Type 0
TellsBytes m (Exists size) = (0 < size) × ForSome m.reads (λ file. size ≡ length file)
TellsBytes m OldFault = ⊤
TellsBytes m NewFault = ⊤
