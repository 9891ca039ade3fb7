use Rattle.touch_index.proofs.PathKeys.{IsRead}
use Rattle.touch_index.proofs.keys.keys_of.Given as goal

abbrev pub invariant-loop-byte : goal.invariant-loop-byte
invariant-loop-byte l = IsRead l.found.items l.key l.byte-items l.byte-index
