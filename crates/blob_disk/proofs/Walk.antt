-- A walk over the bytes of a disk that crashes.
use Rattle.std.proofs.Common.{◌≡◌, ℕ, ◌<◌, ◌≤◌, ◌||◌, Bool, false, List, length, get_or}
use Rattle.std.specs.Prelude.{if◌then◌else◌, nat_le}

-- the places below i are done, and those from i on are as they were
pub record TornUpTo (fill stable : ℕ) (marks : List Bool) (old new : List ℕ) (i : ℕ) : Type 0 where
  pub len : length new ≡ length old
  pub done : (k : ℕ) → k < i → k < length old → get_or new k 0 ≡ (if nat_le stable k || get_or marks k false then fill else get_or old k 0)
  pub rest : (k : ℕ) → i ≤ k → get_or new k 0 ≡ get_or old k 0
