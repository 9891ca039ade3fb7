use Rattle.std.proofs.Common.{◌<◌, arith}
use Rattle.repo_journal.proofs.Steps.{seals_closed}
use Rattle.repo_journal.proofs.journal.Journal.close.Goals as goal

pub returns-in-Ok-clause-closed : goal.returns-in-Ok-clause-closed
returns-in-Ok-clause-closed g c =
    let least = c.self.invariant.least in
    let size = c.self.inside.size in
    let some : 0 < size = omega arith in
    rw (← c.self.view_is)
    (λ m bytes u honest is image h. seals_closed m size bytes image some u.closed honest is (c.in-Ok.ensures.sealed size m bytes some u honest image h))
