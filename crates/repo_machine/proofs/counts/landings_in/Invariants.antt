use Rattle.std.proofs.Common.{◌≡◌, ◌+◌, drop, length}
use Rattle.std.specs.Prelude.{filter}
use Rattle.repo_machine.specs.Counting.{is_landing_entry}
use Rattle.repo_machine.proofs.counts.landings_in.Given as goal

-- what is counted and what is left make all
abbrev pub invariant-entries : goal.invariant-entries
invariant-entries l = l.count + length (filter is_landing_entry (drop l.entry-index l.entries)) ≡ length (filter is_landing_entry l.entries)
