use Rattle.std.proofs.Common.{◌≤◌, length, sym, ap, subst, ◌∙◌}
use Rattle.changeset_model.specs.Changeset.{are_changes}
use Rattle.bonsai.specs.View.{edits_view, view_of}
use Rattle.bonsai.specs.Making.{keep_sources}
use Rattle.bonsai.proofs.Rules.{changes_on_parent, keeps_on_parent}
use Rattle.bonsai.proofs.changeset.Changeset.keeps_on_parent.Goals as goal

pub returns-clause-value : goal.returns-clause-value
returns-clause-value c =
    let f = view_of c.self.inside.version c.self.inside.parents.items c.self.inside.date c.self.inside.told.value in
    c.keep_sources.ensures
    ∙ ap (λ es. keep_sources f.version 1 (edits_view es)) c.as_slice.ensures.value
    ∙ ap (λ t. keep_sources f.version 1 (edits_view t.edits.items)) c.deref.ensures
    ∙ changes_on_parent f c.self.invariant.rules
    ∙ ap (λ m. are_changes m.version 1 m.changes) c.self.view_is

pub returns-clause-alone : goal.returns-clause-alone
returns-clause-alone c = λ few.
    let f = view_of c.self.inside.version c.self.inside.parents.items c.self.inside.date c.self.inside.told.value in
    c.keep_sources.ensures
    ∙ ap (λ es. keep_sources f.version 1 (edits_view es)) c.as_slice.ensures.value
    ∙ ap (λ t. keep_sources f.version 1 (edits_view t.edits.items)) c.deref.ensures
    ∙ changes_on_parent f c.self.invariant.rules
    ∙ keeps_on_parent f c.self.invariant.rules (subst (λ m. length m.parents ≤ 1) (sym c.self.view_is) few)
