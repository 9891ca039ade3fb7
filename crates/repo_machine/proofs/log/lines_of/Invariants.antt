use Rattle.std.proofs.Common.{◌≡◌, take, map}
use Rattle.repo_calls.specs.Calls.{lines_seen}
use Rattle.repo_machine.specs.Lines.{line_at}
use Rattle.repo_machine.proofs.log.lines_of.Given as goal

-- the lines so far
abbrev pub invariant-places : goal.invariant-places
invariant-places l = lines_seen l.lines.items ≡ map (line_at l.changesets.known l.entries) (take l.place-index l.places)
