use Rattle.repo_state.proofs.GroupParts.{nothing_pending, one_more_pending, pending_size}
use Rattle.repo_state.proofs.group_images.what_waits.Goals as goal

pub returns-clause-none : goal.returns-clause-none
returns-clause-none c = nothing_pending

pub returns-clause-more : goal.returns-clause-more
returns-clause-more c = one_more_pending

pub returns-clause-sizes : goal.returns-clause-sizes
returns-clause-sizes c = pending_size
