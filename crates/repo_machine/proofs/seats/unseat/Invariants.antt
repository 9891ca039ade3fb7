use Rattle.repo_machine.proofs.ClearedEntries.{IsUnseatedTo}
use Rattle.repo_machine.proofs.seats.unseat.Given as goal

abbrev pub invariant-loop-entry : goal.invariant-loop-entry
invariant-loop-entry l = IsUnseatedTo l.entry-index l.entry-items l.fn.entries.items
