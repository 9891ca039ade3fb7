use Rattle.std.proofs.Common.{◌≡◌, ◌+◌, min, true, take}
use Rattle.std.specs.List.{list_all}
use Rattle.std.specs.Char.{is_ascii_digit}
use Rattle.std.specs.Str.Parse.{digits_value}
use Rattle.reply_reader.proofs.header_values.decimal.Given as goal

abbrev pub invariant-digits : goal.invariant-digits
invariant-digits l = (l.value ≡ min (digits_value 10 (take l.digit-index l.text)) (l.limit + 1)) × (list_all is_ascii_digit (take l.digit-index l.text) ≡ true)
