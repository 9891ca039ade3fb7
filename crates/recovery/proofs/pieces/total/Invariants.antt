use Rattle.std.proofs.Common.{◌≡◌, ◌≤◌, ◌+◌, ◌*◌, drop, sum_by}
use Rattle.recovery.proofs.pieces.total.Given as goal

-- what was counted, and what is left
abbrev pub invariant-loop-part : goal.invariant-loop-part
invariant-loop-part l = (l.total + sum_by (λ p. p.place.length) (drop l.part-index l.parts) ≡ sum_by (λ p. p.place.length) l.parts) × (l.total ≤ l.part-index * 34_359_738_368)
