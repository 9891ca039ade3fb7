use Rattle.std.proofs.Common.{◌≡◌, ◌≤◌, ℕ, take, false}
use Rattle.http_model.specs.Stream.{ends_head}
use Rattle.http_wire.proofs.cutting.head_len.Given as goal

abbrev pub invariant-fronts : goal.invariant-fronts
invariant-fronts l = (n : ℕ) → n ≤ l.len → ends_head (take n l.bytes) ≡ false
