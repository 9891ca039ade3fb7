use Rattle.std.proofs.Common.{◌≡◌, true, sym, ap, subst, ◌∙◌}
use Rattle.std.specs.Option.{option_and_then}
use Rattle.std.specs.FinMap as map
use Rattle.bonsai.specs.View.{edits_view}
use Rattle.node_table.specs.Table.{Table}
use Rattle.changeset_store.specs.Store.{changeset_at}
use Rattle.manifest_store.specs.Manifests.{AreManifests}
use Rattle.manifest_store.specs.Jobs.{is_ready}
use Rattle.manifest_store.proofs.Jobs.{deletions_are}
use Rattle.manifest_store.proofs.store.ManifestStore.deletions_of.Goals as goal

pub returns : goal.returns
returns c =
    let ks = c.args.changesets.now.known in
    let n = c.args.number in
    let a : AreManifests ks c.self.inside.table = subst (AreManifests ks) (sym c.self.view_is) c.requires.manifests in
    let ready : is_ready ks c.self.inside.table n ≡ true = ap (λ (t : Table). is_ready ks t n) c.self.view_is ∙ c.requires.ready in
    deletions_are ks c.self.inside.table a n c.requires.known ready c.deletions_from.result c.roots_of_parent-first.result c.roots_of_parent-second.result (edits_view c.args.edits.now)
    (c.roots_of_parent-first.ensures ∙ (λ i. option_and_then (λ p. map.get (sym c.self.view_is i).roots p) (c.parent.ensures.parent i)))
    (c.roots_of_parent-second.ensures ∙ (λ i. option_and_then (λ p. map.get (sym c.self.view_is i).roots p) (c.second_parent.ensures.parent i)))
    c.requires.edits.changes c.deletions_from.ensures

pub deletions_from-requires : goal.deletions_from-requires
deletions_from-requires c = (changeset_at c.args.changesets.now.known c.args.number, c.requires.edits)
