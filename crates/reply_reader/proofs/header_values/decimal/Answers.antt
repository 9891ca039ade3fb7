use Rattle.std.proofs.Common.{sym, arith, ◌+◌}
use Rattle.http_wire.proofs.TextLemmas.{decimal_step, all_digits_more}
use Rattle.reply_reader.proofs.header_values.decimal.Goals as goal

pub digits-preserved : goal.digits-preserved
digits-preserved c =
    let text = c.args.text.now in
    let i = c.digits.digit-index in
    let here = c.if-not-is_ascii_digit.ensures in
    let step = rw c.from.ensures at c.min-value.ensures in
    (decimal_step text i c.digits.value c.min-value.result (c.args.limit + 1) c.digits-test.true (omega arith) here.cases.0 here.cases.1 c.digits.invariant.0 step, all_digits_more text i c.digits-test.true c.digits.invariant.1 (sym here.value))
