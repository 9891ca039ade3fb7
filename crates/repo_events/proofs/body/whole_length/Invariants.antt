use Rattle.std.proofs.Common.{◌≡◌, ◌+◌, drop, length}
use Rattle.std.specs.List.{concat}
use Rattle.repo_events.proofs.body.whole_length.Given as goal

-- the length so far and that of the rest
abbrev pub invariant-parts : goal.invariant-parts
invariant-parts l = l.length + length (concat (drop l.part-index l.parts)) ≡ 11 + length l.id + length (concat l.parts)
