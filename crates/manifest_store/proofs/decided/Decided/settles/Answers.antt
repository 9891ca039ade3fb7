use Rattle.std.proofs.Common.{◌||◌, sym, ap, ◌∙◌}
use Rattle.std.specs.List.{list_any}
use Rattle.std.specs.FinMap.{is_sorted}
use Rattle.std.proofs.Math.Logic.{∥∥₁_elim}
use Rattle.std.specs.Coded.{Coded-set, coded_bool}
use Rattle.bonsai.specs.View.{edits_view}
use Rattle.bonsai.proofs.Rules.{changes_rise}
use Rattle.changeset_model.specs.Path.{comparable, path_cmp, path_eq}
use Rattle.derive_step.specs.Covering.{paths_set}
use Rattle.manifest_store.proofs.Deciding.{settled_parts}
use Rattle.manifest_store.proofs.decided.Decided.settles.Goals as goal

pub returns-then-is_set_near : goal.returns-then-is_set_near
returns-then-is_set_near c =
    let p = c.args.path.now in
    let es = edits_view c.args.self.now.edits.now in
    let rest = list_any (λ e. path_eq e.0 p) es in
    ∥∥₁_elim c.args.self.now.rules (Coded-set coded_bool _ _) (λ a.
    let made = a.made.1 in
    let near = c.is_set_near.ensures a.made.0 made.kept made.clear (a.sets_are ∙ ap paths_set made.changes) ∙ ap (list_any (λ q. comparable q p)) a.sets_are in
    c.if-is_set_near.true ∙ sym (settled_parts p es ∙ ap (λ b. b || rest) (sym near ∙ c.if-is_set_near.true)))

pub returns-else-is_set_near : goal.returns-else-is_set_near
returns-else-is_set_near c =
    let p = c.args.path.now in
    let es = edits_view c.args.self.now.edits.now in
    let rest = list_any (λ e. path_eq e.0 p) es in
    ∥∥₁_elim c.args.self.now.rules (Coded-set coded_bool _ _) (λ a.
    let made = a.made.1 in
    let near = c.is_set_near.ensures a.made.0 made.kept made.clear (a.sets_are ∙ ap paths_set made.changes) ∙ ap (list_any (λ q. comparable q p)) a.sets_are in
    c.is_edited.ensures (ap (is_sorted path_cmp) made.changes ∙ changes_rise a.made.0 made.kept) ∙ sym (settled_parts p es ∙ ap (λ b. b || rest) (sym near ∙ c.if-is_set_near.false)))
