-- The line of a changeset: itself, its first parent and so on. Changesets go by numbers, each above its first parent's, so a line from n has at most n + 1 members.
--     line parent n      the line from n, newest first
--     logged parent logs n      its members that logs tells of
--     last_logged parent logs n      the first of these
--     IsEarlier asked parent      of those that may be asked of, each first parent is below its child, and may be asked of too
use Rattle.std.specs.Prelude.{◌≡◌, ℕ, zero, suc, ◌<◌, Bool, IsTrue, List, [], ◌∷◌, filter, find, Option, Some}
use Rattle.std.specs.Option.{option_map_or}

-- of at most this many members
abbrev pub line_within : ℕ → (ℕ → Option ℕ) → ℕ → List ℕ
line_within zero parent n = []
line_within (suc most) parent n = n ∷ option_map_or (line_within most parent) (parent n) []

abbrev pub line : (ℕ → Option ℕ) → ℕ → List ℕ
line parent n = line_within (suc n) parent n

abbrev pub logged : (ℕ → Option ℕ) → (ℕ → Bool) → ℕ → List ℕ
logged parent logs n = filter logs (line parent n)

abbrev pub last_logged : (ℕ → Option ℕ) → (ℕ → Bool) → ℕ → Option ℕ
last_logged parent logs n = find logs (line parent n)

abbrev pub IsEarlier : (ℕ → Bool) → (ℕ → Option ℕ) → Type 0
IsEarlier asked parent = (n m : ℕ) → IsTrue (asked n) → parent n ≡ Some m → (m < n) × IsTrue (asked m)
