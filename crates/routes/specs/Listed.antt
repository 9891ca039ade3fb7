-- The changesets of a list, as the code keeps them.
--     changesets_seen list      their bytes
use Rattle.std.specs.Prelude.{ℕ, List, map}
use Rattle.std.specs.Borrow.{Bor}

abbrev pub changesets_seen : List (Bor (List ℕ)) → List (List ℕ)
changesets_seen list = map (λ changeset. changeset.now) list
