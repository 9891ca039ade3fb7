use Rattle.std.proofs.Common.{◌≡◌, [], ◌∷◌, false, Err, sym, ap, ◌∙◌, rules}
use Rattle.std.specs.Prelude.{bytes_eq}
use Rattle.history_model.specs.Bookmark.{name_fault}
use Rattle.land_policy.proofs.Callers.{no_text_no_name, fault_no_name}
use Rattle.land_policy.proofs.line.name_of.Goals as goal

pub returns-in_default : goal.returns-in_default
returns-in_default c =
    let other : bytes_eq c.args.word.now (0x2A ∷ []) ≡ false = search rules in
    no_text_no_name c.args.word.now other c.in_default.ensures.cases.0

pub returns-in-Err-BadName : goal.returns-in-Err-BadName
returns-in-Err-BadName c =
    let at = c.in-Err-BadName.field-0-0 in
    let other : bytes_eq c.args.word.now (0x2A ∷ []) ≡ false = search rules in
    fault_no_name c.args.word.now at other (ap name_fault (sym c.in-Ok.ensures.cases.0) ∙ (c.in-Err-BadName.ensures.bad at).0 (λ i. Err (c.in-Err-BadName.field-0-is i)))
