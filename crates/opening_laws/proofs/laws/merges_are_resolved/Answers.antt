use Rattle.opening_laws.proofs.Callers.{changes_resolved}
use Rattle.opening_laws.proofs.Merges.{known_resolved}
use Rattle.opening_laws.proofs.laws.merges_are_resolved.Goals as goal

pub returns-clause-next : goal.returns-clause-next
returns-clause-next c = changes_resolved

pub returns-clause-known : goal.returns-clause-known
returns-clause-known c = known_resolved
