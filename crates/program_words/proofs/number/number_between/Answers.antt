use Rattle.std.proofs.Common.{rules, ◌≡◌, None, sym, ap, ◌∙◌, true, arith}
use Rattle.program_words.specs.Words.{is_numeral, number_between}
use Rattle.program_words.proofs.Numbers.{too_large}
use Rattle.program_words.proofs.number.number_between.Goals as goal

pub returns-in_err-number-clause-value : goal.returns-in_err-number-clause-value
returns-in_err-number-clause-value c =
    let numeral : is_numeral c.args.text.now ≡ true = ap is_numeral (sym c.as_bytes.ensures.value) ∙ sym c.is_numeral.ensures ∙ c.if-not-is_numeral.false in
    let none : number_between c.args.least c.args.most c.args.text.now ≡ None = too_large c.args.least c.args.most c.args.text.now c.parse.result c.parse.ensures.value.0 numeral (omega (arith, c.ranges.most.fits))
    (λ n is. search (rules, is, c.in_err-number.was, c.ok.ensures.value)) in
    c.from_residual.ensures ∙ sym none
