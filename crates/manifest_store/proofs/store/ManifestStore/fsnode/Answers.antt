use Rattle.std.proofs.Common.{◌≡◌, true, Some, sym, ap, subst, ◌∙◌}
use Rattle.std.specs.FinMap as map
use Rattle.node_table.specs.Table.{Table, is_settled}
use Rattle.unode.specs.Parts.{entry_seen}
use Rattle.manifest_store.specs.Manifests.{AreManifests}
use Rattle.manifest_store.specs.Reads.{dir_of}
use Rattle.manifest_store.proofs.Reading.{fs_dir, fs_read, fs_file, fs_none}
use Rattle.manifest_store.proofs.store.ManifestStore.fsnode.Goals as goal

pub returns-in_default-walk-clause-absent : goal.returns-in_default-walk-clause-absent
returns-in_default-walk-clause-absent c = λ ks are.
    let a : AreManifests ks c.self.inside.table = subst (AreManifests ks) (sym c.self.view_is) are in
    let settled : is_settled c.self.inside.table c.args.number ≡ true = ap (λ (t : Table). is_settled t c.args.number) c.self.view_is ∙ c.requires.settled in
    fs_none ks c.self.inside.table a c.args.number settled c.in-Some.roots (sym c.in-Some.is ∙ c.roots.ensures.value) (dir_of c.args.dir) c.in_default-walk.ensures

pub bytes_of-requires : goal.bytes_of-requires
bytes_of-requires c =
    let ks = c.requires.manifests.0 in
    let are = c.requires.manifests.1 in
    let a : AreManifests ks c.self.inside.table = subst (AreManifests ks) (sym c.self.view_is) are in
    let settled : is_settled c.self.inside.table c.args.number ≡ true = ap (λ (t : Table). is_settled t c.args.number) c.self.view_is ∙ c.requires.settled in
    (_, ap (λ (t : Table). map.get t.nodes c.in-Directory.id) (sym c.self.view_is) ∙ fs_dir ks c.self.inside.table a c.args.number settled c.in-Some.roots (sym c.in-Some.is ∙ c.roots.ensures.value) (dir_of c.args.dir) c.in-Directory.id (sym (ap (λ e. Some (entry_seen e)) c.in-Directory.is) ∙ c.in-Some-walk.ensures))

pub returns-in_ok-bytes_of-in-Directory-clause-bytes : goal.returns-in_ok-bytes_of-in-Directory-clause-bytes
returns-in_ok-bytes_of-in-Directory-clause-bytes c = λ ks are.
    let a : AreManifests ks c.self.inside.table = subst (AreManifests ks) (sym c.self.view_is) are in
    let settled : is_settled c.self.inside.table c.args.number ≡ true = ap (λ (t : Table). is_settled t c.args.number) c.self.view_is ∙ c.requires.settled in
    fs_read ks c.self.inside.table a c.args.number settled c.in-Some.roots (sym c.in-Some.is ∙ c.roots.ensures.value) (dir_of c.args.dir) c.in-Directory.id c.in_ok-bytes_of-in-Directory.field-0.items (sym (ap (λ e. Some (entry_seen e)) c.in-Directory.is) ∙ c.in-Some-walk.ensures) (ap (λ (t : Table). map.get t.nodes c.in-Directory.id) c.self.view_is ∙ c.in_ok-bytes_of-in-Directory.ensures)

pub returns-in-File-clause-absent : goal.returns-in-File-clause-absent
returns-in-File-clause-absent c = λ ks are.
    let a : AreManifests ks c.self.inside.table = subst (AreManifests ks) (sym c.self.view_is) are in
    let settled : is_settled c.self.inside.table c.args.number ≡ true = ap (λ (t : Table). is_settled t c.args.number) c.self.view_is ∙ c.requires.settled in
    fs_file ks c.self.inside.table a c.args.number settled c.in-Some.roots (sym c.in-Some.is ∙ c.roots.ensures.value) (dir_of c.args.dir) c.in-File.field-0 (sym (ap (λ e. Some (entry_seen e)) c.in-File.is) ∙ c.in-Some-walk.ensures)
