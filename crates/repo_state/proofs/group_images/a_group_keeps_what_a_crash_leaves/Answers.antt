use Rattle.repo_state.proofs.Leaving.{leaves_alone, leaves_entered, leaves_sealed, leaves_seal_failed}
use Rattle.repo_state.proofs.group_images.a_group_keeps_what_a_crash_leaves.Goals as goal

pub returns-clause-entered : goal.returns-clause-entered
returns-clause-entered c = leaves_entered

pub returns-clause-laid : goal.returns-clause-laid
returns-clause-laid c = leaves_alone

pub returns-clause-sealed : goal.returns-clause-sealed
returns-clause-sealed c = leaves_sealed

pub returns-clause-failed : goal.returns-clause-failed
returns-clause-failed c = leaves_seal_failed
