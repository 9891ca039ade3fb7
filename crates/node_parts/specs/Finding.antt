-- The part in which a name is looked for.
--     is_past read n      the name that was read is greater than n, or none could be read
--     IsPast ps n      there is no part, or the first name of the first is greater than n
--     IsLastTo ps n part      it is the last one whose first name isn't greater than n
--     IsPartOf ps n part      it is that one, or none is
use Rattle.std.specs.Prelude.{◌≡◌, ◌++◌, ◌∷◌, [], ℕ, Bool, true, false, List, Option, None, Some, Result, Ok, Err}
use Rattle.std.specs.Ordering.{is_gt, nat_cmp}
use Rattle.std.specs.Cmp.Lexicographic.{slice_cmp}
use Rattle.node_fields.specs.Lookup.{sized}

abbrev pub is_past : Result (List ℕ × List ℕ) ℕ → List ℕ → Bool
is_past (Ok s) n = is_gt (slice_cmp nat_cmp s.0 n)
is_past (Err left) n = true

abbrev pub IsPast : List (List ℕ) → List ℕ → Type 0
IsPast [] n = Unit {0}
IsPast (p ∷ ps) n = is_past (sized p) n ≡ true

pub record IsLastTo (ps : List (List ℕ)) (n part : List ℕ) : Type 0 where
  pub front : List (List ℕ)
  pub later : List (List ℕ)
  pub parts : ps ≡ front ++ part ∷ later
  pub reached : is_past (sized part) n ≡ false
  pub past : IsPast later n

abbrev pub IsPartOf : List (List ℕ) → List ℕ → Option (List ℕ) → Type 0
IsPartOf ps n None = IsPast ps n
IsPartOf ps n (Some part) = IsLastTo ps n part
