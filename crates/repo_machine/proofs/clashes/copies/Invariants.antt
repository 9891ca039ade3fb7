use Rattle.std.proofs.Common.{◌≡◌, map, take}
use Rattle.repo_machine.proofs.clashes.copies.Given as goal

-- those so far
abbrev pub invariant-paths : goal.invariant-paths
invariant-paths l = l.copies.items ≡ map (λ p. p.now) (take l.path-index l.paths)
