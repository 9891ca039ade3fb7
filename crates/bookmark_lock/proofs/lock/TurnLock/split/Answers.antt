use Rattle.std.proofs.Common.{rules}
use Rattle.bookmark_lock.specs.Seated.{view_in}
use Rattle.bookmark_lock.proofs.Entries.{entries_unused}
use Rattle.bookmark_lock.proofs.lock.TurnLock.split.Goals as goal

pub returns-clause-unused : goal.returns-clause-unused
returns-clause-unused g c = let new = (view_in c.into_badge-2.result.views).member.post in entries_unused new.number new.front (search rules)
