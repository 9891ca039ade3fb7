-- Lists of numbers.
--     numbers_at lists key      the numbers under a key
--     KeepAll old new      what stands under a key stands there still
--     IsRisingTo most xs, AreRisingTo most lists      none is above one behind it, nor above most
use Rattle.std.specs.Prelude.{ℕ, ◌<◌, ◌≤◌, List, [], length, nat_eq, slice_index, Contains}
use Rattle.std.specs.HashMap.{get}
use Rattle.std.specs.Option.{option_map_or}
use Rattle.touch_index.specs.declared.lists.NumberLists.{NumberLists}

abbrev pub numbers_at : NumberLists → ℕ → List ℕ
numbers_at lists key = option_map_or (λ numbers. numbers.items) (get nat_eq lists.map key) []

pub record IsRisingTo (most : ℕ) (xs : List ℕ) : Type 0 where
  pub rising : (i j : ℕ) → i ≤ j → j < length xs → slice_index xs i ≤ slice_index xs j
  pub bounded : (i : ℕ) → i < length xs → slice_index xs i ≤ most

abbrev pub AreRisingTo : ℕ → NumberLists → Type 0
AreRisingTo most lists = (key : ℕ) → IsRisingTo most (numbers_at lists key)

abbrev pub KeepAll : NumberLists → NumberLists → Type 0
KeepAll old new = (key n : ℕ) → Contains (numbers_at old key) n → Contains (numbers_at new key) n
