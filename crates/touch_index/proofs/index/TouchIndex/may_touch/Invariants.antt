use Rattle.std.proofs.Common.{take}
use Rattle.std.specs.List.{All}
use Rattle.touch_index.specs.Lists.{numbers_at}
use Rattle.touch_index.proofs.Asking.{IsOut}
use Rattle.touch_index.proofs.index.TouchIndex.may_touch.Given as goal

-- at those so far
abbrev pub invariant-keys : goal.invariant-keys
invariant-keys g l = All (λ key. IsOut (g.R.Range.contains l.range) l.above (numbers_at l.self.at key)) (take l.key-index l.key-items)
