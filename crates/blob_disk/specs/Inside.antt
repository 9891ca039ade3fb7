-- What the fields of a content keep: room for all, and no mark outside of its span.
use Rattle.std.specs.Prelude.{◌≡◌, ℕ, ◌<◌, ◌≤◌, Bool, false, List, length, slice_index_or}

pub record IsRoomy (capacity len stable : ℕ) (marks : List Bool) (from to : ℕ) : Type 0 where
  pub has_room : length marks ≤ capacity
  pub fits : len ≤ length marks
  pub is_inside : stable ≤ len
  pub span : to ≤ length marks
  pub before : (i : ℕ) → i < from → slice_index_or marks i false ≡ false
  pub behind : (i : ℕ) → to ≤ i → slice_index_or marks i false ≡ false
