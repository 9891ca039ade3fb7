use Rattle.std.proofs.Common.{◌∷◌, [], map, sym, ap, ◌∙◌}
use Rattle.changeset_model.specs.Changeset.{touched_paths}
use Rattle.bonsai.specs.View.{view_of}
use Rattle.bonsai.proofs.Rules.{changes_rise}
use Rattle.bonsai.proofs.Touched.{if_ok, paths_view, touched_paths_are}
use Rattle.bonsai.proofs.changeset.Changeset.touched_paths.Goals as goal

pub returns-clause-edits : goal.returns-clause-edits
returns-clause-edits c =
    if_ok _ _ c.paths_of.result (λ paths h. h ∙ ap (map (λ e. e.path)) c.as_slice.ensures.value ∙ ap (λ t. map (λ e. e.path) t.edits.items) c.deref.ensures ∙ paths_view c.self.inside.told.value.edits.items ∙ ap (λ m. map (λ e. e.0) m.changes) c.self.view_is) c.paths_of.ensures

pub returns-clause-touched : goal.returns-clause-touched
returns-clause-touched c =
    let f = view_of c.self.inside.version c.self.inside.parents.items c.self.inside.date c.self.inside.told.value in
    let touched = sym (touched_paths_are f (changes_rise f c.self.invariant.rules)) ∙ ap (λ m. touched_paths (m ∷ [])) c.self.view_is in
    if_ok _ _ c.paths_of.result (λ paths h. h ∙ ap (map (λ e. e.path)) c.as_slice.ensures.value ∙ ap (λ t. map (λ e. e.path) t.edits.items) c.deref.ensures ∙ paths_view c.self.inside.told.value.edits.items ∙ touched) c.paths_of.ensures
