-- Reading entries one after the other, as a loop does.
use Rattle.std.proofs.Common.{ℕ, List, refl}
use Rattle.std.specs.Prelude.{Option, Some}
use Rattle.byte_fields.specs.Reading.{Reader}
use Rattle.byte_fields.proofs.Run.{Run}
use Rattle.manifest_model.specs.NodeReading.{entry, entries}

-- each name is greater than the one before it
abbrev pub entries_run : {X : Type 0} → Reader X → Run (List ℕ × X) (Option (List ℕ))
entries_run r = record {
  all = entries r;
  one = entry r;
  next = λ before e. Some e.0;
  none = λ before bytes. refl;
  more = λ n before bytes. refl;
}
