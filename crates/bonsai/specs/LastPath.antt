-- The path before the next of some edits.
--     last_path before es      the path of the last of some edits, or the one before them
use Rattle.std.specs.Prelude.{List, [], ◌∷◌, Option, Some}
use Rattle.changeset_model.specs.Path.{Path}
use Rattle.changeset_model.specs.Changeset.{FileChange}

abbrev pub last_path : Option Path → List (Path × FileChange) → Option Path
last_path before [] = before
last_path before (e ∷ es) = last_path (Some e.0) es
