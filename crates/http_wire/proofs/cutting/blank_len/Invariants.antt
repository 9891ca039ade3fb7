use Rattle.std.proofs.Common.{◌≡◌, ◌≤◌, ◌-◌, length, drop, List, ℕ}
use Rattle.http_model.specs.Stream.{skip_blank}
use Rattle.http_wire.proofs.cutting.blank_len.Given as goal

pub record Skips (bytes : List ℕ) (at : ℕ) : Type 0 where
  pub within : at ≤ length bytes
  pub same : skip_blank (drop at bytes) ≡ skip_blank bytes

abbrev pub invariant-lines : goal.invariant-lines
invariant-lines l = Skips l.bytes l.at

abbrev pub decreases-lines : goal.decreases-lines
decreases-lines l = length l.bytes - l.at
