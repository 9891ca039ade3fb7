use Rattle.std.proofs.Common.{None, Some, cond, ◌==◌, length, sym, ap, ◌∙◌, arith}
use Rattle.std.specs.Option.{option_or}
use Rattle.object_id.proofs.Digits.{hex_fault_within}
use Rattle.object_id.proofs.id.hex_fault_of.Goals as goal

pub returns-in-Some : goal.returns-in-Some
returns-in-Some c =
    sym (hex_fault_within c.args.text.now c.min-len.result c.min-len.ensures
    ∙ ap (λ o. option_or o (cond (length c.args.text.now == 64) None (Some c.min-len.result))) (sym c.first_bad.ensures ∙ c.in-Some.is))

pub returns-in-None-2 : goal.returns-in-None-2
returns-in-None-2 c = grind (arith, hex_fault_within c.args.text.now c.min-len.result c.min-len.ensures)
