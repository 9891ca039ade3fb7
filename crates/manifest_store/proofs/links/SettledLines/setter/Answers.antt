use Rattle.std.proofs.Common.{Some, sym, ap, ◌∙◌}
use Rattle.std.proofs.Math.Logic.{∥∥₁_elim}
use Rattle.std.specs.Coded.{Coded-set, coded_option}
use Rattle.changeset_model.specs.Codes.{coded_id}
use Rattle.unode.specs.Parts.{entry_seen, file_seen}
use Rattle.manifest_store.proofs.LogLinks.{dir_setter, no_setter, setter_is, setter_there}
use Rattle.manifest_store.proofs.links.SettledLines.setter.Goals as goal

pub unreachable-requires-in-None : goal.unreachable-requires-in-None
unreachable-requires-in-None c =
    let lines = c.args.self.now in
    ∥∥₁_elim lines.manifests (λ x y. absurd x) (λ a. setter_there lines.changesets.now.known lines.table.now a c.args.at c.requires c.args.path.now c.in-Some.roots (sym c.in-Some.is ∙ c.roots.ensures.value) c.in-File.id
    (sym (ap (λ e. Some (entry_seen e)) c.in-File.is) ∙ c.in-Some-walk.ensures) c.in-None.ensures)

pub returns-in-Some-file_unode : goal.returns-in-Some-file_unode
returns-in-Some-file_unode c =
    let lines = c.args.self.now in
    ∥∥₁_elim lines.manifests (Coded-set (coded_option coded_id) _ _) (λ a. setter_is lines.changesets.now.known lines.table.now a c.args.at c.requires c.args.path.now c.in-Some.roots (sym c.in-Some.is ∙ c.roots.ensures.value) c.in-File.id
    (sym (ap (λ e. Some (entry_seen e)) c.in-File.is) ∙ c.in-Some-walk.ensures) (file_seen c.in-Some-file_unode.file) c.in-Some-file_unode.ensures)

pub returns-in-Directory : goal.returns-in-Directory
returns-in-Directory c =
    let lines = c.args.self.now in
    ∥∥₁_elim lines.manifests (Coded-set (coded_option coded_id) _ _) (λ a. dir_setter lines.changesets.now.known lines.table.now a c.args.at c.requires c.args.path.now c.in-Some.roots (sym c.in-Some.is ∙ c.roots.ensures.value) c.in-Directory.field-0
    (sym (ap (λ e. Some (entry_seen e)) c.in-Directory.is) ∙ c.in-Some-walk.ensures))

pub returns-in_default-walk : goal.returns-in_default-walk
returns-in_default-walk c =
    let lines = c.args.self.now in
    ∥∥₁_elim lines.manifests (Coded-set (coded_option coded_id) _ _) (λ a. no_setter lines.changesets.now.known lines.table.now a c.args.at c.requires c.args.path.now c.in-Some.roots (sym c.in-Some.is ∙ c.roots.ensures.value) c.in_default-walk.ensures)
