use Rattle.merge_laws.proofs.Pasts.{lines_resolved, lines_apart}
use Rattle.merge_laws.proofs.laws.pasts_without_merges_are_resolved.Goals as goal

pub returns-clause-resolved : goal.returns-clause-resolved
returns-clause-resolved c = lines_resolved

pub returns-clause-apart : goal.returns-clause-apart
returns-clause-apart c = lines_apart
