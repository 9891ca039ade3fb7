use Rattle.merge_laws.proofs.Pasts.{known_resolved, known_flat}
use Rattle.merge_laws.proofs.laws.known_changesets_are_resolved.Goals as goal

pub returns-clause-resolved : goal.returns-clause-resolved
returns-clause-resolved c = known_resolved

pub returns-clause-flat : goal.returns-clause-flat
returns-clause-flat c = known_flat
