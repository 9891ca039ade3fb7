-- The meaning of a disk that tells nothing but its faults.
use Rattle.std.specs.Prelude.{ℕ, false, [], None, refl}
use mathlib.Core.Bool.{true≢false}
use Rattle.std.proofs.Common.{sym}
use Rattle.disk_model.specs.Images.{holding}
use Rattle.disk_model.specs.Meaning.{Meaning, IsSound}

abbrev pub untold : ℕ → Meaning
untold faults = record { reads = None; state = holding []; past = None; moment = 0; faults = faults; quiet = None; honest = false }

pub untold_sound : (faults : ℕ) → IsSound (untold faults)
untold_sound faults = record {
  reads = λ honest. absurd (true≢false (sym honest));
  image = λ honest. absurd (true≢false (sym honest));
  untimed = λ none. refl;
  timed = λ ds is. absurd (cc);
}
