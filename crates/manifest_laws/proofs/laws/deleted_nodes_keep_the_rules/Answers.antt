use Rattle.manifest_laws.proofs.GoneRules.{deletions_bounded, deleted_kept}
use Rattle.manifest_laws.proofs.laws.deleted_nodes_keep_the_rules.Goals as goal

pub returns-clause-few : goal.returns-clause-few
returns-clause-few c = deletions_bounded

pub returns-clause-node : goal.returns-clause-node
returns-clause-node c = λ h x d all small. deleted_kept h x all d small
