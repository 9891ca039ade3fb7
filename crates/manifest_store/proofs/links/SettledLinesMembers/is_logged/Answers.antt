use Rattle.std.proofs.Common.{true, false, refl, sym, ◌∙◌}
use Rattle.std.specs.Prelude.{is_some}
use Rattle.std.proofs.Math.Logic.{∥∥₁_elim}
use Rattle.std.specs.Coded.{Coded-set, coded_bool}
use Rattle.history_model.specs.Tree.{tree_of}
use Rattle.changeset_store.specs.Store.{parent_at}
use Rattle.changeset_store.specs.Pasts.{past_at_some}
use Rattle.manifest_store.specs.PathLines.{has_file_at}
use Rattle.manifest_store.proofs.LinkMoves.{logged_at_is}
use Rattle.manifest_store.proofs.links.SettledLinesMembers.is_logged.Goals as goal

pub returns-then-is_set : goal.returns-then-is_set
returns-then-is_set c =
    let lines = c.args.self.now in
    let ks = lines.changesets.now.known in
    let p = c.args.path.now in
    ∥∥₁_elim lines.manifests (Coded-set coded_bool _ _) (λ a. logged_at_is ks lines.table.now a p c.args.at c.requires true (has_file_at ks p c.args.at) (is_some (tree_of (past_at_some ks (parent_at ks c.args.at)) p)) (sym c.if-is_set.true ∙ c.is_set.ensures) refl refl)

pub returns-then-has : goal.returns-then-has
returns-then-has c =
    let lines = c.args.self.now in
    ∥∥₁_elim lines.manifests (Coded-set coded_bool _ _) (λ a. logged_at_is lines.changesets.now.known lines.table.now a c.args.path.now c.args.at c.requires false true c.had_file-had.result (sym c.if-is_set.false ∙ c.is_set.ensures) (sym c.if-has.true ∙ c.has_file-has.ensures) c.had_file-had.ensures)

pub returns-else-has : goal.returns-else-has
returns-else-has c =
    let lines = c.args.self.now in
    ∥∥₁_elim lines.manifests (Coded-set coded_bool _ _) (λ a. logged_at_is lines.changesets.now.known lines.table.now a c.args.path.now c.args.at c.requires false false c.had_file-had.result (sym c.if-is_set.false ∙ c.is_set.ensures) (sym c.if-has.false ∙ c.has_file-has.ensures) c.had_file-had.ensures)
