-- What is reported of a file whose repository isn't opened.
use Rattle.std.proofs.Common.{◌≡◌, ◌≢◌, ℕ, false, List, refl}
use Rattle.std.specs.Prelude.{IsSome, IsTrue, Result, Err}
use Rattle.ports.specs.Faults.{Counts}
use Rattle.disk_model.specs.Meaning.{Meaning}
use Rattle.history_model.specs.History.{Entry, stored}
use Rattle.history_model.specs.Journal.{Header, Stands}
use Rattle.reply_model.specs.Legal.{IsLegal}
use Rattle.recovery.specs.Answers.{is_disk_fault, IsRefused, TellsNothing}
use Rattle.recovery.specs.declared.fault.OpenFault.{OpenFault}
use Rattle.recovery.specs.declared.fault.OpenFault.TheVariants as faults
use Rattle.command_line.specs.declared.report.Report.TheVariants.{DiskFault}
use Rattle.command_line.specs.Opening.{Finds, Refuses, Unharmed, is_refusal, report_of}

-- by what opening found
abbrev found : OpenFault → Result ℕ OpenFault
found fault = Err fault

finds : (old new : Meaning) (fault : OpenFault) → (IsTrue old.honest → IsRefused old.state.reads fault) → Counts old.faults new.faults (is_disk_fault (found fault)) → Finds old new (report_of fault)
finds old new faults.NotARepository refused counts = refused
finds old new (faults.Damaged at) refused counts = refused
finds old new faults.DiskFault refused counts = counts.cause refl
finds old new faults.Memory refused counts = tt

nothing : (fault : OpenFault) → TellsNothing fault → is_refusal (report_of fault) ≡ false
nothing faults.NotARepository none = absurd none
nothing (faults.Damaged at) none = absurd none
nothing faults.DiskFault none = refl
nothing faults.Memory none = refl

no_fault : (fault : OpenFault) → is_disk_fault (found fault) ≡ false → report_of fault ≢ DiskFault
no_fault faults.NotARepository is = λ e. cc
no_fault (faults.Damaged at) is = λ e. cc
no_fault faults.DiskFault is = λ e. cc
no_fault faults.Memory is = λ e. cc

pub refuses : (old new : Meaning) (fault : OpenFault) → Unharmed old new
    → (IsTrue old.honest → IsRefused old.state.reads fault)
    → (IsTrue old.honest → (made : Header) (g : List Entry) → Stands made old.state.reads g → IsLegal made (stored g) → TellsNothing fault)
    → Counts old.faults new.faults (is_disk_fault (found fault))
    → (IsSome old.quiet → is_disk_fault (found fault) ≡ false)
    → Refuses old new (report_of fault)
refuses old new fault unharmed refused never counts quiet = record {
  finds = finds old new fault refused counts;
  never = λ honest made g stands legal. nothing fault (never honest made g stands legal);
  quiet = λ told. no_fault fault (quiet told);
  unharmed = unharmed;
}
