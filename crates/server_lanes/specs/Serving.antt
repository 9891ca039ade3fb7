-- What a run of a server did with its accept.
--     Gave links before after      the accept gave so many links: the count of what it gave rose by them, or stands at its last value
--     IsThrough given most over before after      no more links are taken: the most were given, the accept is over, or a call of it failed
use Rattle.std.specs.Prelude.{◌≡◌, ◌⊎◌, ℕ, ◌+◌, ◌-◌, ◌^◌, Bool, true}
use Rattle.ports.specs.Faults.{Rose}

abbrev pub Gave : ℕ → ℕ → ℕ → Type 0
Gave links before after = (before + links ≡ after) ⊎ (after ≡ 2 ^ 64 - 1)

abbrev pub IsThrough : ℕ → ℕ → Bool → ℕ → ℕ → Type 0
IsThrough given most over before after = (given ≡ most) ⊎ ((over ≡ true) ⊎ Rose before after)
