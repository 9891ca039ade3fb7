use Rattle.shared_repo.proofs.Fronts.{after_memory}
use Rattle.shared_repo.proofs.repo.Repo.put_owned.Goals as goal

-- memory runs out
pub returns-in_default-clause-after : goal.returns-in_default-clause-after
returns-in_default-clause-after g c = after_memory _ _ _ _
