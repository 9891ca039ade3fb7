use Rattle.std.proofs.Common.{sym, ◌∙◌}
use Rattle.std.proofs.Math.Logic.{∥∥₁_elim}
use Rattle.std.specs.Coded.{Coded-set, coded_option}
use Rattle.changeset_model.specs.Codes.{coded_id}
use Rattle.unode.specs.Parts.{entry_seen}
use Rattle.manifest_store.proofs.LogLinks.{deleter_read, no_deleter}
use Rattle.manifest_store.proofs.links.SettledLines.deleter.Goals as goal

pub returns : goal.returns
returns c =
    let lines = c.args.self.now in
    ∥∥₁_elim lines.manifests (Coded-set (coded_option coded_id) _ _) (λ a. deleter_read lines.changesets.now.known lines.table.now a c.args.at c.requires c.args.path.now c.in-Some.roots (sym c.in-Some.is ∙ c.roots.ensures.value) (entry_seen c.in-Some-walk.entry) c.id_of.result c.id_of.ensures
    c.in-Some-walk.ensures c.deleted_link.result c.deleted_link.ensures)

pub returns-in_default-walk : goal.returns-in_default-walk
returns-in_default-walk c =
    let lines = c.args.self.now in
    ∥∥₁_elim lines.manifests (Coded-set (coded_option coded_id) _ _) (λ a. no_deleter lines.changesets.now.known lines.table.now a c.args.at c.requires c.args.path.now c.in-Some.roots (sym c.in-Some.is ∙ c.roots.ensures.value) c.in_default-walk.ensures)
