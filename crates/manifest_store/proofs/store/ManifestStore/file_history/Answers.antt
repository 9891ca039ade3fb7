use Rattle.std.proofs.Common.{◌≡◌, true, Some, sym, ap, subst, ◌∙◌}
use Rattle.node_table.specs.Table.{Table, is_settled}
use Rattle.unode.specs.Parts.{entry_seen}
use Rattle.manifest_store.specs.Manifests.{AreManifests}
use Rattle.manifest_store.proofs.Reading.{file_node, past_read, past_dir, past_none}
use Rattle.manifest_store.proofs.store.ManifestStore.file_history.Goals as goal

pub returns-in_default-walk-clause-absent : goal.returns-in_default-walk-clause-absent
returns-in_default-walk-clause-absent c =
    let ks = c.args.changesets.now.known in
    let a : AreManifests ks c.self.inside.table = subst (AreManifests ks) (sym c.self.view_is) c.requires.manifests in
    let settled : is_settled c.self.inside.table c.args.number ≡ true = ap (λ (t : Table). is_settled t c.args.number) c.self.view_is ∙ c.requires.settled in
    past_none ks c.self.inside.table a c.args.number settled c.in-Some.roots (sym c.in-Some.is ∙ c.roots.ensures.value) c.args.path.now c.in_default-walk.ensures

pub returns-in-Directory-clause-absent : goal.returns-in-Directory-clause-absent
returns-in-Directory-clause-absent c =
    let ks = c.args.changesets.now.known in
    let a : AreManifests ks c.self.inside.table = subst (AreManifests ks) (sym c.self.view_is) c.requires.manifests in
    let settled : is_settled c.self.inside.table c.args.number ≡ true = ap (λ (t : Table). is_settled t c.args.number) c.self.view_is ∙ c.requires.settled in
    past_dir ks c.self.inside.table a c.args.number settled c.in-Some.roots (sym c.in-Some.is ∙ c.roots.ensures.value) c.args.path.now c.in-Directory.field-0 (sym (ap (λ e. Some (entry_seen e)) c.in-Directory.is) ∙ c.in-Some-walk.ensures)

pub makers-requires-clause-file : goal.makers-requires-clause-file
makers-requires-clause-file c =
    let ks = c.args.changesets.now.known in
    let a : AreManifests ks c.self.inside.table = subst (AreManifests ks) (sym c.self.view_is) c.requires.manifests in
    let settled : is_settled c.self.inside.table c.args.number ≡ true = ap (λ (t : Table). is_settled t c.args.number) c.self.view_is ∙ c.requires.settled in
    (c.args.number, c.args.path.now, file_node ks c.self.inside.table a c.args.number settled c.in-Some.roots (sym c.in-Some.is ∙ c.roots.ensures.value) c.args.path.now c.in-File.id (sym (ap (λ e. Some (entry_seen e)) c.in-File.is) ∙ c.in-Some-walk.ensures))

pub returns-in_ok-makers-in-File-clause-ids : goal.returns-in_ok-makers-in-File-clause-ids
returns-in_ok-makers-in-File-clause-ids c =
    let ks = c.args.changesets.now.known in
    let a : AreManifests ks c.self.inside.table = subst (AreManifests ks) (sym c.self.view_is) c.requires.manifests in
    let settled : is_settled c.self.inside.table c.args.number ≡ true = ap (λ (t : Table). is_settled t c.args.number) c.self.view_is ∙ c.requires.settled in
    let here = sym (ap (λ e. Some (entry_seen e)) c.in-File.is) ∙ c.in-Some-walk.ensures in
    let at = sym c.in-Some.is ∙ c.roots.ensures.value in
    past_read ks c.self.inside.table a c.args.number settled c.in-Some.roots at c.args.path.now c.in-File.id c.in_ok-makers-in-File.field-0.items here
    (c.in_ok-makers-in-File.ensures c.args.number c.args.path.now (file_node ks c.self.inside.table a c.args.number settled c.in-Some.roots at c.args.path.now c.in-File.id here))
