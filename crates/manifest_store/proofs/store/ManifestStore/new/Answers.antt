use Rattle.manifest_store.proofs.Settled.{of_nothing}
use Rattle.manifest_store.proofs.store.ManifestStore.new.Goals as goal

pub returns-clause-manifests : goal.returns-clause-manifests
returns-clause-manifests c = λ ks s right. of_nothing ks c.new.result c.new.ensures s right
