use Rattle.std.proofs.Common.{refl, arith}
use Rattle.std.specs.Str.Parse.{digits_value}
use Rattle.reply_reader.proofs.framing.frame.Goals as goal

pub returns-in-Some-decimal : goal.returns-in-Some-decimal
returns-in-Some-decimal c =
    let capped = c.in-Some-decimal.ensures.value.1 in
    let over = c.if-body-limit.true in
    (digits_value 10 c.in-One-values_named.digits.now, (c.in-One-values_named.digits.now, c.in-One-values_named.ensures, c.in-Some-decimal.ensures.value.0, refl), omega arith)
