use Rattle.std.proofs.Common.{◌≡◌, ◌+◌, ◌++◌, ◌∷◌, [], drop, ap, sym, ◌∙◌, append_assoc}
use Rattle.std.proofs.lemmas.List.{drop_more}
use Rattle.bonsai.specs.View.{edit_view, edits_view}
use Rattle.derive_step.specs.Covering.{paths_seen, paths_set}
use Rattle.derive_step.proofs.Covered.{set_first}
use Rattle.manifest_store.proofs.decided.set_paths.Goals as goal

pub loop-edit-preserved : goal.loop-edit-preserved
loop-edit-preserved c =
    let es = c.args.edits.now in
    let i = c.loop-edit.edit-index in
    let x = c.edit-item.result in
    let rest = edits_view (drop (i + 1) es) in
    let cut : edits_view (drop i es) ≡ edit_view x ∷ rest = ap edits_view (drop_more es i x c.loop-edit-test.true ∙ ap (λ y. y ∷ drop (i + 1) es) (sym c.edit-item.is)) in
    ap (λ ps. ps ++ paths_set rest) c.in_ok-push_set.ensures
    ∙ append_assoc (paths_seen c.loop-edit.paths.items) (paths_set (edit_view x ∷ [])) (paths_set rest)
    ∙ ap (λ ps. paths_seen c.loop-edit.paths.items ++ ps) (sym (set_first (edit_view x) rest) ∙ ap paths_set (sym cut))
    ∙ c.loop-edit.invariant
