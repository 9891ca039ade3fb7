use Rattle.std.proofs.Common.{None, ap, ◌∙◌}
use Rattle.bonsai.specs.Conflict.{neighbours}
use Rattle.bonsai.specs.View.{edits_view, fields_view}
use Rattle.bonsai.proofs.Conflicts.{neighbours_conflict}
use Rattle.bonsai.proofs.Rules.{changes_rise}
use Rattle.bonsai.proofs.fields.Fields.self_conflict.Goals as goal

pub returns : goal.returns
returns c =
    let fields = fields_view c.args.self.now in
    c.first_conflict.ensures
    ∙ ap (λ es. neighbours None (edits_view es)) c.as_slice.ensures.value
    ∙ neighbours_conflict fields (changes_rise fields c.requires)
