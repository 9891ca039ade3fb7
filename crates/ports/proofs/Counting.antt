-- Counts over several calls.
use Rattle.std.proofs.Common.{ℕ, Bool, false, inl, inr, arith}
use Rattle.ports.specs.Faults.{Rose, Counts}

pub counts_none : (n : ℕ) → Counts n n false
counts_none n = record { grows = omega arith; most = λ h. h; cause = λ failed. absurd (cc) }

-- a count that rose still did so behind later calls
pub rose_then : (a b c : ℕ) (failed : Bool) → Rose a b → Counts b c failed → Rose a c
rose_then a b c failed (inl more) later = inl (let h = later.grows in omega arith)
rose_then a b c failed (inr last) later = inr (let g = later.grows in let m = later.most (omega arith) in omega arith)

pub then_rose : (a b c : ℕ) (failed : Bool) → Counts a b failed → Rose b c → Rose a c
then_rose a b c failed before (inl more) = inl (let h = before.grows in omega arith)
then_rose a b c failed before (inr last) = inr last

pub counts_then : (a b c : ℕ) (once failed : Bool) → Counts a b once → Counts b c failed → Counts a c failed
counts_then a b c once failed before later = record {
  grows = (let p = before.grows in let q = later.grows in omega arith);
  most = λ h. later.most (before.most h);
  cause = λ fails. then_rose a b c once before (later.cause fails);
}
