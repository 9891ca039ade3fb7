use Rattle.std.proofs.Common.{◌≡◌, Err, true, sym, ap, ◌∙◌}
use Rattle.std.specs.Option.{is_none}
use Rattle.history_model.specs.Bookmark.{is_name}
use Rattle.page_reader.proofs.parts.name_at.Goals as goal

pub returns-in-Err-BadName-clause-found : goal.returns-in-Err-BadName-clause-found
returns-in-Err-BadName-clause-found c = λ text rules is.
    let bad = (c.parse.ensures.bad c.in-Err-BadName.field-0-0).0 (c.in-Err-BadName.is ∙ ap Err c.in-Err-BadName.field-0-is) in
    let same = c.in_ok-text.ensures text is in
    let fine : is_name c.in_ok-text.text.now ≡ true = ap is_name same ∙ rules in
    let none = sym fine ∙ ap is_none bad in
    absurd (cc)
