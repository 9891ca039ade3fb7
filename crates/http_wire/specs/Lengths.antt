-- What the values of the Content-Length headers say, as the head's tests see it.
use Rattle.std.specs.Prelude.{◌≡◌, ◌+◌, ℕ, min, true, false, List, [], ◌∷◌}
use Rattle.std.specs.Str.Parse.{digits_value}
use Rattle.http_model.specs.Head.{is_decimal, are_one_length, most_body}
use Rattle.http_wire.specs.declared.header_fields.Length.{Length}
use Rattle.http_wire.specs.declared.header_fields.Length.TheVariants.{Absent, Given, Bad}

abbrev pub IsLength : List (List ℕ) → Length → Type 0
IsLength texts Absent = texts ≡ []
IsLength texts (Given n) = (text : List ℕ) × (texts ≡ text ∷ []) × (is_decimal text ≡ true) × (n ≡ min (digits_value 10 text) (most_body + 1))
IsLength texts Bad = are_one_length texts ≡ false
