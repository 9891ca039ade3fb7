use Rattle.std.proofs.Common.{◌≡◌, ℕ, true, ◌<◌, ◌≤◌, length, get_or}
use Rattle.touch_index.proofs.numbers.may_have_later.Given as goal

-- none of those from here on
abbrev pub invariant-loop-end : goal.invariant-loop-end
invariant-loop-end g l = record {
  within : l.end ≤ length l.numbers;
  none : (k : ℕ) → l.end ≤ k → k < length l.numbers → l.above < get_or l.numbers k 0 → g.R.Range.contains l.range (get_or l.numbers k 0) ≡ true → ⊥;
}

abbrev pub decreases-loop-end : goal.decreases-loop-end
decreases-loop-end g l = l.end
