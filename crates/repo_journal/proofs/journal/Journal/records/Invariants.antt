use Rattle.std.proofs.Common.{◌-◌}
use Rattle.repo_journal.proofs.Listing.{Listed}
use Rattle.repo_journal.proofs.journal.Journal.records.Given as goal

abbrev pub invariant-loop-spans : goal.invariant-loop-spans
invariant-loop-spans g l = Listed (g.D.Disk.meaning l.fn.disk) (g.D.Disk.meaning l.disk) l.fn.self.size l.scanner l.spans.items

abbrev pub decreases-loop-spans : goal.decreases-loop-spans
decreases-loop-spans g l = l.scanner.size - l.scanner.gate
