-- What a merge leaves unresolved, said without an order of search.
--     IsLeftAgainst c left right q      a file at q of the one side, which the changeset leaves, stands against one of the other
--     IsUnresolved c left right q      the same, of either side
use Rattle.std.specs.Prelude.{◌≡◌, ◌⊎◌, true, false, List, Contains}
use Rattle.changeset_model.specs.Path.{Path}
use Rattle.changeset_model.specs.Changeset.{File, Changeset}
use Rattle.history_model.specs.Tree.{decides}
use Rattle.history_model.specs.Merge.{stands_against}

pub record IsLeftAgainst (c : Changeset) (left right : List (Path × File)) (q : Path) : Type 0 where
  pub file : File
  pub there : Contains left (q, file)
  pub is_left : decides c q ≡ false
  pub other : Path × File
  pub other_there : Contains right other
  pub stands : stands_against c (q, file) other ≡ true

abbrev pub IsUnresolved : Changeset → List (Path × File) → List (Path × File) → Path → Type 0
IsUnresolved c left right q = IsLeftAgainst c left right q ⊎ IsLeftAgainst c right left q
