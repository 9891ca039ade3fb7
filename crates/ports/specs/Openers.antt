-- What stands under names.
--     Shelf D      each name with what it has, until that is taken out, and what new names are given
--     given name create s      what opening a name gives;  left name create s      the shelf once it was given
use Rattle.std.specs.Prelude.{ℕ, Bool, true, false, if◌then◌else◌, List, [], ◌∷◌, bytes_eq, Option, None, Some}

pub record Shelf (D : Type 0) : Type 0 where
  pub named : List (List ℕ × Option D)
  pub empty : List D

abbrev pub last_empty : {D : Type 0} → List D → Option D
last_empty [] = None
last_empty (d ∷ []) = Some d
last_empty (d ∷ (e ∷ ds)) = last_empty (e ∷ ds)

-- a name that was never there gets one of the empty ones, if it is to be made
abbrev pub given_among : {D : Type 0} → List ℕ → Bool → List (List ℕ × Option D) → List D → Option D
given_among name create [] empty = if create then last_empty empty else None
given_among name create (slot ∷ named) empty = if bytes_eq slot.0 name then slot.1 else given_among name create named empty

abbrev pub given : {D : Type 0} → List ℕ → Bool → Shelf D → Option D
given name create s = given_among name create s.named s.empty

-- the empty ones but the last
abbrev pub other_empty : {D : Type 0} → List D → List D
other_empty [] = []
other_empty (d ∷ []) = []
other_empty (d ∷ (e ∷ ds)) = d ∷ other_empty (e ∷ ds)

-- what the name had is gone, and every other name is as it was
abbrev pub taken_out : {D : Type 0} → List ℕ → List (List ℕ × Option D) → List (List ℕ × Option D)
taken_out name [] = []
taken_out name (slot ∷ named) = if bytes_eq slot.0 name then (slot.0, None) ∷ named else slot ∷ taken_out name named

abbrev pub is_name : {D : Type 0} → List ℕ → List (List ℕ × Option D) → Bool
is_name name [] = false
is_name name (slot ∷ named) = if bytes_eq slot.0 name then true else is_name name named

abbrev pub left : {D : Type 0} → List ℕ → Bool → Shelf D → Shelf D
left name create s =
    if is_name name s.named
    then record s { named = taken_out name s.named }
    else (if create then record s { empty = other_empty s.empty } else s)
