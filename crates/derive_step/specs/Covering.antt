-- Paths that a changeset sets.
--     paths_seen ps      the paths that some references show
--     paths_set es      the paths that edits set, in their order
use Rattle.std.specs.Prelude.{List, [], ◌∷◌, map}
use Rattle.std.specs.Borrow.{Bor}
use Rattle.changeset_model.specs.Path.{Path}
use Rattle.changeset_model.specs.Changeset.{FileChange, Set, Delete}

abbrev pub paths_seen : List (Bor Path) → List Path
paths_seen ps = map (λ p. p.now) ps

abbrev pub paths_set : List (Path × FileChange) → List Path
paths_set [] = []
paths_set ((p, Set f copied) ∷ es) = p ∷ paths_set es
paths_set ((p, Delete) ∷ es) = paths_set es
