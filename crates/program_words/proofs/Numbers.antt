-- Numerals as `parse` reads them.
use Rattle.std.proofs.Common.{◌≡◌, ◌≢◌, ℕ, ◌<◌, ◌≤◌, ◌^◌, List, length, None, Result, Ok, true, arith, rules, ◌⊎◌, inl, inr}
use Rattle.std.specs.Prelude.{nat_lt}
use Rattle.std.specs.List.{list_all}
use Rattle.std.specs.Char.{is_ascii_digit}
use Rattle.std.specs.Str.Parse.{digits_value, ParsesUnsigned}
use Rattle.std.proofs.lemmas.Bool.{cases_lt, and_parts, ltb-true}
use Rattle.std.proofs.lemmas.Str.Parse.{IsNumeralModel, numerals_by_value, parse_gives}
use Rattle.program_words.specs.Words.{is_numeral, number_between}

own : IsNumeralModel (λ text. list_all is_ascii_digit text ≡ true) (digits_value 10)
own = numerals_by_value _ (search rules)

-- a numeral that `parse` refuses is larger than any bound that fits
pub too_large : {E : Type 0} (least most : ℕ) (text : List ℕ) (r : Result ℕ E) → ParsesUnsigned 64 10 text r → is_numeral text ≡ true → most < 2 ^ 64
    → ((n : ℕ) → r ≢ Ok n) → number_between least most text ≡ None
too_large least most text r h e fits bad = by (cases_lt (digits_value 10 text) (2 ^ 64))
  where
    by : (digits_value 10 text < 2 ^ 64) ⊎ (2 ^ 64 ≤ digits_value 10 text) → number_between least most text ≡ None
    by (inl below) =
        let parts = and_parts (nat_lt 0 (length text)) _ e in
        let digits = and_parts (list_all is_ascii_digit text) _ parts.1 in
        absurd (bad _ (parse_gives own 64 text r h digits.0 (ltb-true 0 (length text) parts.0) below))
    by (inr above) = grind (arith, e, above, fits)
