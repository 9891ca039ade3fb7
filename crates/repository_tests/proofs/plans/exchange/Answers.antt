use Rattle.std.specs.Prelude.{None}
use Rattle.repository_tests.proofs.plans.exchange.Goals as goal

-- how much room there has to be doesn't depend on the caller
pub judge_rebased-requires-clause-room : goal.judge_rebased-requires-clause-room
judge_rebased-requires-clause-room c = c.in_ok-reserve.ensures.room None
