use Rattle.std.proofs.Common.{◌∙◌, Some, None}
use Rattle.std.proofs.Math.Logic.{∥∥₁_elim}
use Rattle.std.specs.Coded.{Coded-set, coded_option, coded_ℕ}
use Rattle.manifest_store.specs.PathLines.{has_file_at}
use Rattle.manifest_store.proofs.LogLinks.{gone_by}
use Rattle.manifest_store.proofs.links.SettledLinesLines.deleted_link.Goals as goal

pub returns-in-Some : goal.returns-in-Some
returns-in-Some c =
    let lines = c.args.self.now in
    let ks = lines.changesets.now.known in
    ∥∥₁_elim lines.manifests (Coded-set (coded_option coded_ℕ) _ _) (λ a. c.number_of.ensures.number ∙ gone_by ks lines.table.now a c.args.at c.requires c.args.path.now (has_file_at ks c.args.path.now c.args.at) (Some c.in-Some.id) c.in-Some.ensures)

pub returns-in-None : goal.returns-in-None
returns-in-None c =
    let lines = c.args.self.now in
    let ks = lines.changesets.now.known in
    ∥∥₁_elim lines.manifests (Coded-set (coded_option coded_ℕ) _ _) (λ a. gone_by ks lines.table.now a c.args.at c.requires c.args.path.now (has_file_at ks c.args.path.now c.args.at) None c.in-None.ensures)
