use Rattle.manifest_laws.proofs.Seen.{outside_at, outside_under, here_at, here_under, under_at, under_under}
use Rattle.manifest_laws.proofs.entry_laws.edits_are_seen_from_a_directory.Goals as goal

pub returns-clause-outside : goal.returns-clause-outside
returns-clause-outside c = λ d q name h. (outside_at d q name h, outside_under d q name h)

pub returns-clause-here : goal.returns-clause-here
returns-clause-here c = λ d q next name h. (here_at d q next name h, here_under d q next name h)

pub returns-clause-under : goal.returns-clause-under
returns-clause-under c = λ d q r e next name h. (under_at d q r e next name h, under_under d q r e next name h)
