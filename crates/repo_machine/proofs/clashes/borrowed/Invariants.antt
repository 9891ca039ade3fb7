use Rattle.std.proofs.Common.{◌≡◌, map, take}
use Rattle.repo_machine.proofs.clashes.borrowed.Given as goal

-- those so far
abbrev pub invariant-paths : goal.invariant-paths
invariant-paths l = map (λ p. p.now) l.found.items ≡ take l.path-index l.paths
