-- The hex text of an id: 64 digits of either case.
--     hex_fault text      where a text is no id in hex
use Rattle.std.specs.Prelude.{ℕ, not, ◌==◌, min, if◌then◌else◌, List, length, take, position, Option, None, Some}
use Rattle.std.specs.Option.{option_or}
use Rattle.std.specs.Char.{is_ascii_hexdigit}

-- the first byte among the first 64 that is no digit; else the length where it is under 64, and 64 where it is over
abbrev pub hex_fault : List ℕ → Option ℕ
hex_fault text = option_or (position (λ c. not (is_ascii_hexdigit c)) (take 64 text)) (if length text == 64 then None else Some (min (length text) 64))
