use Rattle.std.proofs.Common.{map, take}
use Rattle.std.specs.List.{All}
use Rattle.touch_index.specs.Lists.{AreRisingTo, KeepAll}
use Rattle.touch_index.specs.Entered.{IsEntered}
use Rattle.touch_index.proofs.entering.enter_edits.Given as goal

-- by those so far
abbrev pub invariant-edits : goal.invariant-edits
invariant-edits l = record {
  at_rises : AreRisingTo l.number l.at;
  under_rises : AreRisingTo l.number l.under;
  at_keeps : KeepAll l.initial.at l.at;
  under_keeps : KeepAll l.initial.under l.under;
  entered : All (IsEntered l.at l.under l.number) (map (λ e. e.path) (take l.edit-index l.edits));
}
