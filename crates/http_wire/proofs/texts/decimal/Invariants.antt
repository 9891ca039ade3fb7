use Rattle.std.proofs.Common.{◌≡◌, ◌+◌, min, true, take}
use Rattle.std.specs.List.{list_all}
use Rattle.std.specs.Char.{is_ascii_digit}
use Rattle.std.specs.Str.Parse.{digits_value}
use Rattle.http_model.specs.Head.{most_body}
use Rattle.http_wire.proofs.texts.decimal.Given as goal

abbrev pub invariant-digits : goal.invariant-digits
invariant-digits l = (l.value ≡ min (digits_value 10 (take l.digit-index l.text)) (most_body + 1)) × (list_all is_ascii_digit (take l.digit-index l.text) ≡ true)
