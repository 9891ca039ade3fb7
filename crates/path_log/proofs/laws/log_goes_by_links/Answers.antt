use Rattle.path_log.proofs.Logs.{deleted_is_last, file_has_last, log_is_from_last, nothing_logged}
use Rattle.path_log.proofs.laws.log_goes_by_links.Goals as goal

pub returns-clause-log : goal.returns-clause-log
returns-clause-log c = log_is_from_last

pub returns-clause-file : goal.returns-clause-file
returns-clause-file c = file_has_last

pub returns-clause-deleted : goal.returns-clause-deleted
returns-clause-deleted c = deleted_is_last

pub returns-clause-nothing : goal.returns-clause-nothing
returns-clause-nothing c = nothing_logged
