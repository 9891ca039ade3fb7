use Rattle.std.proofs.Common.{take}
use Rattle.touch_index.specs.Index.{paths_of}
use Rattle.touch_index.proofs.Asking.{AreOut}
use Rattle.touch_index.proofs.index.TouchIndex.may_clash.Given as goal

-- of those so far
abbrev pub invariant-paths : goal.invariant-paths
invariant-paths g l = AreOut (g.R.Range.contains l.range) l.above l.self (paths_of (take l.path-index l.paths))
