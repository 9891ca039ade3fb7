-- The parts of the meaning of a disk in memory hang together.
use Rattle.std.specs.Prelude.{◌≡◌, List, [], ◌∷◌, length, map, drop, Option, None, Some, refl}
use Rattle.std.proofs.Common.{sym, ap, subst, ◌∙◌, arith}
use Rattle.std.proofs.lemmas.List.{length-take, get_or-take, drop-map}
use Rattle.disk_model.specs.Images.{DiskCall, IsImage}
use Rattle.disk_model.specs.Meaning.{IsSound}
use Rattle.blob_disk.specs.Memory.{Memory, IsGood, blank, after, finally, memories, disk_of}
use Rattle.blob_disk.specs.Log.{Log}
use Rattle.blob_disk.specs.Tally.{Tally}
use Rattle.blob_disk.specs.MemMeaning.{meaning_of, states_of, AgreesWith}

-- what reads give is always one of the images
pub reads_are_image : (m : Memory) → IsGood m → IsImage (disk_of m) m.reads
reads_are_image m good =
    let len = length-take m.stable m.reads in
    let stable = good.stable in
    record {
      are_bytes = good.are_bytes;
      no_shorter = omega arith;
      no_longer = omega arith;
      kept = λ i inside out. sym (get_or-take m.stable m.reads i 0 (omega arith));
    }

-- the last is what it is now
pub last-memories : (m : Memory) (calls : List DiskCall) → drop (length calls) (memories m calls) ≡ finally m calls ∷ []
last-memories m [] = refl
last-memories m (c ∷ calls) = last-memories (after m c) calls

last_state : (m : Memory) (log : Log) → AgreesWith m (Some log) → drop (length log.calls) (states_of (length m.marks) log) ≡ disk_of m ∷ []
last_state m log agrees =
    drop-map disk_of (length log.calls) (memories (blank (length m.marks)) log.calls)
    ∙ ap (λ ms. map disk_of ms) (last-memories (blank (length m.marks)) log.calls)
    ∙ ap (λ n. disk_of n ∷ []) (agrees log refl)

pub sound : (m : Memory) (log : Option Log) (t : Tally) → IsGood m → AgreesWith m log → IsSound (meaning_of m log t)
sound m None t good agrees = record {
  reads = λ honest. refl;
  image = λ honest. reads_are_image m good;
  untimed = λ none. refl;
  timed = λ ds is. cc;
}
sound m (Some log) t good agrees = record {
  reads = λ honest. refl;
  image = λ honest. reads_are_image m good;
  untimed = λ none. cc;
  timed = λ ds is. (let same : states_of (length m.marks) log ≡ ds = cc in subst (λ es. drop (length log.calls) es ≡ disk_of m ∷ []) same (last_state m log agrees));
}
