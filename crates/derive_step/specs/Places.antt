-- Where a path lies, seen from a directory.
--     dir_of dir      the path of a directory, whose root is no path of a file;  is_in dir p      a path lies in it
--     IsPlace place d p      the path p, seen from the directory d
use Rattle.std.specs.Prelude.{◌≡◌, ◌++◌, Bool, true, false, [], ◌∷◌, Option, None, Some}
use Rattle.std.specs.Borrow.{Bor}
use Rattle.changeset_model.specs.Path.{Path, elements, is_strict_prefix, is_element}
use Rattle.derive_step.specs.declared.place.Place.{Place}
use Rattle.derive_step.specs.declared.place.Place.TheVariants.{Outside, Here, Under}

abbrev pub dir_of : Option (Bor Path) → Path
dir_of None = []
dir_of (Some d) = d.now

abbrev pub is_in : Option (Bor Path) → Path → Bool
is_in None p = true
is_in (Some d) p = is_strict_prefix d.now p

abbrev pub IsPlace : Place → Path → Path → Type 0
IsPlace Outside d p = is_strict_prefix d p ≡ false
IsPlace (Here name) d p = (p ≡ d ++ name.now ∷ []) × (is_element name.now ≡ true)
IsPlace (Under name rest) d p = (p ≡ d ++ name.now ∷ elements rest.now) × (is_element name.now ≡ true)
