-- What is done at a path, among edits.
use Rattle.std.proofs.Common.{◌≡◌, ℕ, ◌+◌, ◌<◌, Bool, cond, List, ◌∷◌, length, drop, Some, sym, ap, ◌∙◌}
use Rattle.std.specs.Prelude.{slice_index_or}
use Rattle.std.specs.FinMap.{find as find_key}
use Rattle.std.proofs.lemmas.List.{drop_more}
use Rattle.changeset_model.specs.Path.{Path, path_cmp, path_eq}
use Rattle.repo_path.specs.Order.{path_eq_ties}
use Rattle.bonsai.specs.declared.edit.Edit.{Edit}
use Rattle.bonsai.specs.View.{change_view, edits_view}

pub find_step : (p : Path) (es : List Edit) (i : ℕ) (e : Edit) (b : Bool) → i < length es → e ≡ slice_index_or es i e → path_eq p e.path ≡ b → find_key path_cmp p (edits_view (drop i es)) ≡ cond b (Some (change_view e.change)) (find_key path_cmp p (edits_view (drop (i + 1) es)))
find_step p es i e b less item same =
    ap (λ es. find_key path_cmp p (edits_view es)) (drop_more es i e less ∙ ap (λ e. e ∷ drop (i + 1) es) (sym item))
    ∙ ap (λ b. cond b (Some (change_view e.change)) (find_key path_cmp p (edits_view (drop (i + 1) es)))) (sym (path_eq_ties p e.path) ∙ same)
