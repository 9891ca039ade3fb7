-- Self-conflicts, sought among neighbours.
--     neighbours before es      the first set path under the one set before it, with that one above it
use Rattle.std.specs.Prelude.{if◌then◌else◌, List, [], ◌∷◌, Option, None, Some}
use Rattle.changeset_model.specs.Path.{Path, is_strict_prefix}
use Rattle.changeset_model.specs.Changeset.{FileChange, Set, Delete}

abbrev pub below : Option Path → Path → Option (Path × Path) → Option (Path × Path)
below None p later = later
below (Some q) p later = if is_strict_prefix q p then Some (q, p) else later

abbrev pub neighbours : Option Path → List (Path × FileChange) → Option (Path × Path)
neighbours before [] = None
neighbours before ((p, Set f copied) ∷ es) = below before p (neighbours (Some p) es)
neighbours before ((p, Delete) ∷ es) = neighbours before es
