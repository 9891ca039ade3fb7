use Rattle.std.proofs.Common.{take}
use Rattle.std.specs.Prelude.{Contains}
use Rattle.std.specs.List.{All}
use Rattle.touch_index.specs.Lists.{numbers_at, AreRisingTo, KeepAll}
use Rattle.touch_index.proofs.entering.enter_path.Given as goal

-- under those so far
abbrev pub invariant-keys : goal.invariant-keys
invariant-keys l = record {
  rises : AreRisingTo l.number l.under;
  keeps : KeepAll l.initial.under l.under;
  entered : All (λ key. Contains (numbers_at l.under key) l.number) (take l.key-index l.key-items);
}
