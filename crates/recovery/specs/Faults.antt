-- Faults of opening.
--     fault_of e      what a fault of the scanner is here
use Rattle.repo_journal.specs.declared.fault.ScanFault.{ScanFault}
use Rattle.repo_journal.specs.declared.fault.ScanFault.TheVariants.{DiskFault as ScanDiskFault, Memory as ScanMemory}
use Rattle.recovery.specs.declared.fault.OpenFault.{OpenFault}
use Rattle.recovery.specs.declared.fault.OpenFault.TheVariants.{DiskFault, Memory}

abbrev pub fault_of : ScanFault → OpenFault
fault_of ScanDiskFault = DiskFault
fault_of ScanMemory = Memory
