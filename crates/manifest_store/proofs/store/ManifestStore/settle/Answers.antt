use Rattle.std.proofs.Common.{◌≡◌, true, sym, subst, ◌∙◌}
use Rattle.std.specs.Prelude.{is_some, IfErr}
use Rattle.std.specs.FinMap as map
use Rattle.node_table.specs.Table.{Table, is_settled}
use Rattle.manifest_store.specs.Manifests.{AreManifests}
use Rattle.manifest_store.specs.Jobs.{is_ready}
use Rattle.manifest_store.specs.Settling.{IsCollisionBeside}
use Rattle.manifest_store.proofs.Settled.{settled_either, now_settled, collided_either, beside_either}
use Rattle.manifest_store.proofs.store.ManifestStore.settle.Goals as goal

are : (c : goal.After-settle) → AreManifests c.args.changesets.now.known c.self.inside.table
are c = subst (AreManifests c.args.changesets.now.known) (sym c.self.view_is) c.requires.manifests

ready : (c : goal.After-settle) → is_ready c.args.changesets.now.known c.self.inside.table c.args.done.number ≡ true
ready c = let P : Table → Type 0 = λ t. is_ready c.args.changesets.now.known t c.args.done.number ≡ true in subst P (sym c.self.view_is) (sym c.is_ready.ensures.ready ∙ c.if-not-is_ready.false)

rooted : (c : goal.After-settle) → is_some (map.get c.self.inside.table.roots c.args.done.number) ≡ is_settled c.self.inside.table c.args.done.number
rooted c = let P : Table → Type 0 = λ t. is_some (map.get t.roots c.args.done.number) ≡ is_settled t c.args.done.number in subst P (sym c.self.view_is) c.is_ready.ensures.rooted

pub returns-clause-collision : goal.returns-clause-collision
returns-clause-collision c =
    collided_either c.args.changesets.now.known c.self.inside.table (are c) c.args.done c.requires.known c.requires.derived (ready c) (rooted c) c.settle.result c.settle.ensures.two

pub returns-clause-manifests : goal.returns-clause-manifests
returns-clause-manifests c =
    settled_either c.args.changesets.now.known c.self.inside.table (are c) c.args.done c.requires.known c.requires.derived (ready c) (rooted c) c.settle.result c.settle.new.self c.settle.ensures.ok c.settle.ensures.err c.settle.ensures.nodes

pub returns-clause-settled : goal.returns-clause-settled
returns-clause-settled c =
    λ _. now_settled c.args.changesets.now.known c.self.inside.table (are c) c.args.done c.requires.known c.requires.derived (ready c) (rooted c) c.settle.result c.settle.new.self c.settle.ensures.ok

pub returns-clause-beside : goal.returns-clause-beside
returns-clause-beside c =
    subst (λ t. IfErr c.settle.result (λ fault. IsCollisionBeside c.args.changesets.now.known t c.args.done.number fault)) c.self.view_is
    (beside_either c.args.changesets.now.known c.self.inside.table (are c) c.args.done c.requires.known c.requires.derived (ready c) (rooted c) c.settle.result c.settle.ensures.two)
