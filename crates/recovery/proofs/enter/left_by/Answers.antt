use Rattle.std.proofs.Common.{sym, subst}
use Rattle.manifest_store.specs.Manifests.{AreManifests}
use Rattle.recovery.proofs.enter.left_by.Goals as goal

pub derive_parents-requires : goal.derive_parents-requires
derive_parents-requires c = subst (λ ks. AreManifests ks c.args.manifests.now) (sym c.changesets-changesets.ensures.known) c.requires
