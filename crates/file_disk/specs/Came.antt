-- What came of a sync that was made elsewhere.
--     is_failed came, has_failed flush      it was made, and failed
use Rattle.std.specs.Prelude.{Bool, true, false}
use Rattle.file_disk.specs.declared.flush.Came.{Came}
use Rattle.file_disk.specs.declared.flush.Came.TheVariants.{NotMade, Done, Failed}
use Rattle.file_disk.specs.declared.flush.FileFlush.{FileFlush}

abbrev pub is_failed : Came → Bool
is_failed NotMade = false
is_failed Done = false
is_failed (Failed error) = true

abbrev pub has_failed : FileFlush → Bool
has_failed flush = is_failed flush.came
