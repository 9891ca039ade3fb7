use Rattle.std.proofs.Common.{◌≡◌, length, sym, ap, ◌∙◌, arith}
use Rattle.std.specs.Option.{option_or}
use Rattle.std.proofs.lemmas.Bool.{eqb-false}
use Rattle.repo_path.proofs.Names.{name_fault_is, name_without_fault, bad_length}
use Rattle.repo_path.proofs.book_name.name_fault_of.Goals as goal

pub returns-in-Some : goal.returns-in-Some
returns-in-Some c =
    let text = c.args.text.now in
    ap (λ r. option_or r (bad_length text)) (sym c.in-Some.is) ∙ sym (name_fault_is text c.min-len.result c.first_bad.result c.min-len.ensures c.first_bad.ensures)

pub returns-in-None-3 : goal.returns-in-None-3
returns-in-None-3 c =
    let text = c.args.text.now in
    let some : length text ≡ 0 → ⊥ = eqb-false (length text) 0 (sym c.is_empty.ensures ∙ c.if-is_empty.false) in
    sym (name_without_fault text (omega arith) some)
    ∙ ap (λ r. option_or r (bad_length text)) (sym c.in-None.is)
    ∙ sym (name_fault_is text c.min-len.result c.first_bad.result c.min-len.ensures c.first_bad.ensures)
