use Rattle.std.proofs.Common.{◌≡◌, take}
use Rattle.repo_machine.proofs.rebased.copies.Given as goal

-- those so far
abbrev pub invariant-paths : goal.invariant-paths
invariant-paths l = l.copies.items ≡ take l.path-index l.paths
