use Rattle.std.specs.Prelude.{None}
use Rattle.repo_machine.proofs.Judging.{passes_refusal}
use Rattle.repo_machine.proofs.machine.Machine.judge_landing.Goals as goal

pub returns-in_err-plan-clause-err : goal.returns-in_err-plan-clause-err
returns-in_err-plan-clause-err c = passes_refusal _ c.from_residual.result _ c.from_residual.ensures.1 (c.in_err-plan.ensures.err c.args.moment)

pub judge_rebased-requires-clause-room : goal.judge_rebased-requires-clause-room
judge_rebased-requires-clause-room c = c.in_ok-reserve.ensures.room None
