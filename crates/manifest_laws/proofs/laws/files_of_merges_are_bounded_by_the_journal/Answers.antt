use Rattle.history_model.specs.History.{known}
use Rattle.history_model.specs.Tree.{files_of}
use Rattle.manifest_laws.proofs.Rules.{fsnode_kept}
use Rattle.manifest_laws.proofs.PastBounds.{past_files_bounded, past_total_bounded, past_files_few, past_files_counted}
use Rattle.manifest_laws.proofs.laws.files_of_merges_are_bounded_by_the_journal.Goals as goal

pub returns-clause-files : goal.returns-clause-files
returns-clause-files c = past_files_bounded

pub returns-clause-sizes : goal.returns-clause-sizes
returns-clause-sizes c = past_total_bounded

pub returns-clause-few : goal.returns-clause-few
returns-clause-few c = past_files_few

pub returns-clause-counted : goal.returns-clause-counted
returns-clause-counted c = past_files_counted

pub returns-clause-fsnode : goal.returns-clause-fsnode
returns-clause-fsnode c = λ h x d all small. fsnode_kept (files_of (known h) x) d (past_files_counted h x all small)
