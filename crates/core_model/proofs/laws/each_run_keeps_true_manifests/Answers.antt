use Rattle.core_model.proofs.Tables.{table_is_right, table_is_apart}
use Rattle.core_model.proofs.laws.each_run_keeps_true_manifests.Goals as goal

pub returns-clause-scratch : goal.returns-clause-scratch
returns-clause-scratch c = table_is_right

pub returns-clause-apart : goal.returns-clause-apart
returns-clause-apart c = table_is_apart
