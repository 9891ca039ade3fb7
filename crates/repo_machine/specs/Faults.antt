-- What is wrong with an upload's bytes.
--     fault_refusal fault      as a refusal
use Rattle.bonsai.specs.declared.decode_fault.DecodeFault.{DecodeFault}
use Rattle.bonsai.specs.declared.decode_fault.DecodeFault.TheVariants as faults
use Rattle.repo_calls.specs.declared.refusal.Refusal.{Refusal}
use Rattle.repo_calls.specs.declared.refusal.Refusal.TheVariants.{TooLong, BadEncoding, SelfConflict, Memory}

abbrev pub fault_refusal : DecodeFault → Refusal
fault_refusal (faults.TooLong length) = TooLong length
fault_refusal (faults.BadEncoding at) = BadEncoding at
fault_refusal (faults.SelfConflict short long) = SelfConflict short long
fault_refusal faults.Memory = Memory
