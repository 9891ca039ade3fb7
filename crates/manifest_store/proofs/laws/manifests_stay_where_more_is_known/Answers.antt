use Rattle.manifest_store.proofs.Pasts.{past_stays}
use Rattle.manifest_store.proofs.Settled.{still}
use Rattle.manifest_store.proofs.laws.manifests_stay_where_more_is_known.Goals as goal

pub returns-clause-pasts : goal.returns-clause-pasts
returns-clause-pasts c = λ ks more n own s less. past_stays ks more n own s less

pub returns-clause-manifests : goal.returns-clause-manifests
returns-clause-manifests c = λ ks more t s right a. still ks more t s right a
