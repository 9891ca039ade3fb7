use Rattle.std.proofs.Common.{◌≡◌, true, sym, ap, subst, ◌∙◌}
use Rattle.std.specs.FinMap as map
use Rattle.node_table.specs.Table.{Table, is_settled}
use Rattle.unode.specs.Parts.{entry_seen}
use Rattle.manifest_store.specs.Manifests.{AreManifests}
use Rattle.manifest_store.specs.Reads.{dir_of}
use Rattle.manifest_store.proofs.GoneNodes.{gone_got, gone_read, gone_none}
use Rattle.manifest_store.proofs.store.ManifestStore.deleted.Goals as goal

pub returns-in_default-walk-clause-absent : goal.returns-in_default-walk-clause-absent
returns-in_default-walk-clause-absent c = λ ks are.
    let a : AreManifests ks c.self.inside.table = subst (AreManifests ks) (sym c.self.view_is) are in
    let settled : is_settled c.self.inside.table c.args.number ≡ true = ap (λ (t : Table). is_settled t c.args.number) c.self.view_is ∙ c.requires.settled in
    gone_none ks c.self.inside.table a c.args.number settled c.in-Some.roots (sym c.in-Some.is ∙ c.roots.ensures.value) (dir_of c.args.path) c.in_default-walk.ensures

pub bytes_of-requires : goal.bytes_of-requires
bytes_of-requires c =
    let ks = c.requires.manifests.0 in
    let are = c.requires.manifests.1 in
    let a : AreManifests ks c.self.inside.table = subst (AreManifests ks) (sym c.self.view_is) are in
    let settled : is_settled c.self.inside.table c.args.number ≡ true = ap (λ (t : Table). is_settled t c.args.number) c.self.view_is ∙ c.requires.settled in
    (_, ap (λ (t : Table). map.get t.nodes c.id_of.result) (sym c.self.view_is) ∙ gone_got ks c.self.inside.table a c.args.number settled c.in-Some.roots (sym c.in-Some.is ∙ c.roots.ensures.value) (dir_of c.args.path) (entry_seen c.in-Some-walk.entry) c.id_of.result c.id_of.ensures c.in-Some-walk.ensures)

pub returns-clause-bytes : goal.returns-clause-bytes
returns-clause-bytes c = λ ks are.
    let a : AreManifests ks c.self.inside.table = subst (AreManifests ks) (sym c.self.view_is) are in
    let settled : is_settled c.self.inside.table c.args.number ≡ true = ap (λ (t : Table). is_settled t c.args.number) c.self.view_is ∙ c.requires.settled in
    gone_read ks c.self.inside.table a c.args.number settled c.in-Some.roots (sym c.in-Some.is ∙ c.roots.ensures.value) (dir_of c.args.path) (entry_seen c.in-Some-walk.entry) c.id_of.result c.in_ok-bytes_of.field-0.items c.id_of.ensures c.in-Some-walk.ensures (ap (λ (t : Table). map.get t.nodes c.id_of.result) c.self.view_is ∙ c.in_ok-bytes_of.ensures)
