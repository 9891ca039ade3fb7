use Rattle.std.proofs.Common.{◌≡◌, true, sym, ap, subst, ◌∙◌}
use Rattle.std.specs.Prelude.{Some, is_some}
use Rattle.node_table.specs.Table.{Table, is_settled}
use Rattle.merge_walk.specs.Table.{entries_under}
use Rattle.merge_walk.specs.Walk.{IsTreeAt}
use Rattle.history_model.specs.Tree.{files_of}
use Rattle.changeset_store.specs.Store.{number_in}
use Rattle.changeset_store.specs.Pasts.{past_at}
use Rattle.derive_step.specs.Pasts.{roots_of}
use Rattle.manifest_store.specs.Manifests.{AreManifests}
use Rattle.manifest_store.proofs.Sides.{root_is, tree_is}
use Rattle.manifest_store.proofs.store.ManifestStore.root_of.Goals as goal

pub returns-clause-root : goal.returns-clause-root
returns-clause-root c =
    let ks = c.args.changesets.now.known in
    let a : AreManifests ks c.self.inside.table = subst (AreManifests ks) (sym c.self.view_is) c.requires.manifests in
    let numbered : number_in ks c.args.id.now ≡ Some c.in_ok-number.number = sym c.number_of.ensures.number ∙ c.in_ok-number.was in
    let settled : is_settled c.self.inside.table c.in_ok-number.number ≡ true = sym c.roots.ensures.settled ∙ ap is_some c.in_ok-roots.was in
    let there : Some c.in_ok-roots.roots ≡ roots_of (past_at ks c.in_ok-number.number) = sym c.in_ok-roots.was ∙ c.roots.ensures.value ∙ a.roots c.in_ok-number.number settled in
    root_is ks c.self.inside.table a c.args.id.now c.in_ok-number.number numbered settled c.in_ok-roots.roots there

pub returns-clause-tree : goal.returns-clause-tree
returns-clause-tree c =
    let ks = c.args.changesets.now.known in
    let a : AreManifests ks c.self.inside.table = subst (AreManifests ks) (sym c.self.view_is) c.requires.manifests in
    let numbered : number_in ks c.args.id.now ≡ Some c.in_ok-number.number = sym c.number_of.ensures.number ∙ c.in_ok-number.was in
    let settled : is_settled c.self.inside.table c.in_ok-number.number ≡ true = sym c.roots.ensures.settled ∙ ap is_some c.in_ok-roots.was in
    let there : Some c.in_ok-roots.roots ≡ roots_of (past_at ks c.in_ok-number.number) = sym c.in_ok-roots.was ∙ c.roots.ensures.value ∙ a.roots c.in_ok-number.number settled in
    subst (λ (t : Table). IsTreeAt (entries_under t.nodes) c.in_ok-roots.roots.fsnode (files_of ks c.args.id.now)) c.self.view_is
    (tree_is ks c.self.inside.table a c.args.id.now c.in_ok-number.number numbered settled c.in_ok-roots.roots there)
