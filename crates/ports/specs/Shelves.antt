-- The shelf of an opener over memory.
use Rattle.std.specs.Prelude.{ℕ, Bool, if◌then◌else◌, List, [], ◌∷◌, map, bytes_eq, Option, None, Some}
use Rattle.std.specs.String.{string_bytes}
use Rattle.ports.specs.declared.mem_opener.Slot.{Slot}
use Rattle.ports.specs.Openers.{Shelf}

abbrev pub shelf_in : {D : Type 0} → List (Slot D) → List D → Shelf D
shelf_in named empty = record { named = map (λ s. (string_bytes s.name, s.held)) named; empty = empty }

abbrev pub has_name : {D : Type 0} → List ℕ → Slot D → Bool
has_name name slot = bytes_eq (string_bytes slot.name) name

abbrev pub held_by : {D : Type 0} → List ℕ → List (Slot D) → Option (Option D)
held_by name [] = None
held_by name (slot ∷ named) = if has_name name slot then Some slot.held else held_by name named
