-- Counts of faults, which never fall. A count has 64 bits and stands at its last value.
--     Rose before after      the count rose, or stands at its last value
--     Counts before after failed      after calls, of which the last may have failed: one that failed raised the count
--     together a b      the count of two objects as one
use Rattle.std.specs.Prelude.{min, ◌+◌, ◌≡◌, ◌<◌, ◌≤◌, ◌⊎◌, ◌-◌, ◌^◌, ℕ, Bool, true}

abbrev pub Rose : ℕ → ℕ → Type 0
Rose before after = (before < after) ⊎ (after ≡ 2 ^ 64 - 1)

pub record Counts (before after : ℕ) (failed : Bool) : Type 0 where
  pub grows : before ≤ after
  pub most : before ≤ 2 ^ 64 - 1 → after ≤ 2 ^ 64 - 1
  pub cause : failed ≡ true → Rose before after

-- the sum, which stands at its last value where either does
abbrev pub together : ℕ → ℕ → ℕ
together a b = min (a + b) (2 ^ 64 - 1)
