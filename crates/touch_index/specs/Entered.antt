-- What stands in lists.
--     IsEntered at under n p      the number n under the key of the path p in the one, and under the keys of all at or above p in the other
use Rattle.std.specs.Prelude.{◌≡◌, ℕ, true, Contains}
use Rattle.std.specs.List.{All}
use Rattle.changeset_model.specs.Path.{Path, is_path}
use Rattle.touch_index.specs.Keys.{keys, last_key}
use Rattle.touch_index.specs.Lists.{numbers_at}
use Rattle.touch_index.specs.declared.lists.NumberLists.{NumberLists}

pub record IsEntered (at under : NumberLists) (n : ℕ) (p : Path) : Type 0 where
  pub path : is_path p ≡ true
  pub at_it : Contains (numbers_at at (last_key p)) n
  pub under_each : All (λ key. Contains (numbers_at under key) n) (keys p)
