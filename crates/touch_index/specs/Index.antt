-- What an index has.
--     Has index n p      the changeset n under the keys of the path p, which it touches
--     Keeps old new      what the one has has the other
--     paths_of ps      the paths that some references show
use Rattle.std.specs.Prelude.{ℕ, List, map}
use Rattle.std.specs.Borrow.{Bor}
use Rattle.changeset_model.specs.Path.{Path}
use Rattle.touch_index.specs.Entered.{IsEntered}
use Rattle.touch_index.specs.declared.index.TouchIndex.{TouchIndex}

abbrev pub Has : TouchIndex → ℕ → Path → Type 0
Has index n p = IsEntered index.at index.under n p

pub record Keeps (old new : TouchIndex) : Type 0 where
  pub touches : (n : ℕ) (p : Path) → Has old n p → Has new n p

abbrev pub paths_of : List (Bor Path) → List Path
paths_of ps = map (λ p. p.now) ps
