use Rattle.std.proofs.Common.{Err, sym, ap, ◌∙◌}
use Rattle.history_model.specs.Bookmark.{name_fault}
use Rattle.repo_events.proofs.Names.{no_text_no_name, fault_no_name}
use Rattle.repo_events.proofs.parts.name_of.Goals as goal

pub returns-in_default-clause-name : goal.returns-in_default-clause-name
returns-in_default-clause-name c = no_text_no_name c.args.bytes.now c.in_default.ensures.cases.0

pub returns-in-Err-BadName-clause-name : goal.returns-in-Err-BadName-clause-name
returns-in-Err-BadName-clause-name c =
    let at = c.in-Err-BadName.field-0-0 in
    fault_no_name c.args.bytes.now at (ap name_fault (sym c.in-Ok.ensures.cases.0) ∙ (c.in-Err-BadName.ensures.bad at).0 (λ i. Err (c.in-Err-BadName.field-0-is i)))
