-- Texts of paths.
--     left text      the elements of a text, none where there is no text
--     dir_of dir      the path of a directory, or of the root
use Rattle.std.specs.Prelude.{ℕ, List, [], Option, None, Some}
use Rattle.std.specs.Borrow.{Bor}
use Rattle.changeset_model.specs.Path.{Path, elements}

abbrev pub left : Option (Bor (List ℕ)) → Path
left None = []
left (Some text) = elements text.now

abbrev pub dir_of : Option (Bor Path) → Path
dir_of None = []
dir_of (Some d) = d.now
