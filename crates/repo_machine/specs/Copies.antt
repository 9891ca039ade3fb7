-- The copies that edits set.
--     copy_in e      the path of an edit that sets a copy, with what it was copied from;  copies_among es      those of all
use Rattle.std.specs.Prelude.{List, filter_map, Option, option_map}
use Rattle.changeset_model.specs.Path.{Path}
use Rattle.changeset_model.specs.Changeset.{CopySource, FileChange, source_of}

abbrev pub copy_in : Path × FileChange → Option (Path × CopySource)
copy_in e = option_map (λ source. (e.0, source)) (source_of e.1)

abbrev pub copies_among : List (Path × FileChange) → List (Path × CopySource)
copies_among es = filter_map copy_in es
