-- What a source has left and what a sink holds, where they tell it.
--     Takes buffer n before after      a read took n bytes into the buffer. It takes none only where none are left
--     Puts bytes before after      a write put all its bytes
--     PutsFront bytes before after      a write that failed put a front of its bytes
use Rattle.std.specs.Prelude.{◌≡◌, ◌≤◌, ◌↔◌, ℕ, List, [], ◌++◌, length, take, drop, Option, None, Some, MatchOption}
use mathlib.Core.List.{IsPrefix}

pub record TakesOf (bytes buffer : List ℕ) (n : ℕ) (after : Option (List ℕ)) : Type 0 where
  pub enough : n ≤ length bytes
  pub taken : take n buffer ≡ take n bytes
  pub left : after ≡ Some (drop n bytes)
  pub ends : (n ≡ 0) ↔ (bytes ≡ [])

abbrev pub Takes : List ℕ → ℕ → Option (List ℕ) → Option (List ℕ) → Type 0
Takes buffer n before after = MatchOption before (after ≡ None) (λ bytes. TakesOf bytes buffer n after)

abbrev pub Puts : List ℕ → Option (List ℕ) → Option (List ℕ) → Type 0
Puts bytes before after = MatchOption before (after ≡ None) (λ written. after ≡ Some (written ++ bytes))

abbrev pub PutsFront : List ℕ → Option (List ℕ) → Option (List ℕ) → Type 0
PutsFront bytes before after = MatchOption before (after ≡ None) (λ written. (front : List ℕ) × IsPrefix front bytes × (after ≡ Some (written ++ front)))
