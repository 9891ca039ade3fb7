-- An append that failed at one of its four calls.
use Rattle.std.proofs.Common.{◌≡◌, ℕ, ◌+◌, ◌-◌, ◌<◌, ◌≤◌, Bool, true, false, List, [], ◌∷◌, ◌++◌, length, take, drop, sym, ap, ◌∙◌, arith}
use Rattle.std.specs.Prelude.{slice_index, IsTrue}
use Rattle.std.proofs.Math.Seq.{take-append_seam}
use Rattle.disk_model.specs.Images.{Writes, Syncs, write_at}
use Rattle.disk_model.specs.Meaning.{Meaning, IsSound}
use Rattle.disk_model.specs.Calls.{Did}
use Rattle.blob_disk.proofs.Memories.{reaches}
use Rattle.repo_journal.specs.Cuts.{HasGroup, HoldsGroup, IsCutOff, IsWithout}
use Rattle.repo_journal.specs.Sealing.{AllClosed}
use Rattle.repo_journal.specs.declared.cut.Cut.TheVariants.{Write, Sync, Open, Seal}
use Rattle.repo_journal.proofs.Files.{behind_gate, written_back}
use Rattle.repo_journal.proofs.Seals.{EachImage, with_group, write_leaves_none, sync_keeps, gate_shape}

-- ---- before the gate is opened

pub write_cut : (m n : Meaning) (size : ℕ) (bytes : List ℕ) → IsSound m → IsTrue m.honest → 0 < size → AllClosed size m.state → Did (Writes size bytes false) m n → IsCutOff Write size bytes m.state n.state
write_cut m n size bytes sound honest some closed did = ((did honest).most.reads, write_leaves_none m n size bytes false sound honest some closed did)

-- ---- and from then on

group_behind : (m : Meaning) (size x : ℕ) (bytes image : List ℕ) → 0 < size → size ≤ length m.state.reads → image ≡ take (size - 1) (with_group size bytes m) ++ x ∷ drop size (with_group size bytes m) → HasGroup size bytes image
group_behind m size x bytes image some long shape =
    let reach = reaches size bytes m.state.reads long in
    ap (λ f. take (length bytes) (drop size f)) shape
    ∙ ap (take (length bytes)) (behind_gate size x (with_group size bytes m) (drop size (with_group size bytes m)) some (omega arith) ∙ written_back size bytes m.state.reads long)
    ∙ take-append_seam bytes (drop (size + length bytes) m.state.reads)

pub gate_holds : (m k n : Meaning) (size gate byte : ℕ) (bytes : List ℕ) (done : Bool) → IsSound k → IsTrue k.honest → size ≡ gate + 1 → size ≤ length m.state.reads → k.state.reads ≡ with_group size bytes m → EachImage (λ image. image ≡ k.state.reads) k → Did (Writes gate (byte ∷ []) done) k n → HoldsGroup size bytes n.state
gate_holds m k n size gate byte bytes done sound_k honest_k place long is only did image h =
    group_behind m size (slice_index image gate) bytes image (omega arith) long (gate_shape m k n size gate byte bytes done sound_k honest_k place long is only did image h)

pub open_cut : (m k n : Meaning) (size gate : ℕ) (bytes : List ℕ) → IsSound k → IsTrue k.honest → size ≡ gate + 1 → size ≤ length m.state.reads → k.state.reads ≡ with_group size bytes m → EachImage (λ image. image ≡ k.state.reads) k → Did (Writes gate (1 ∷ []) false) k n → IsCutOff Open size bytes m.state n.state
open_cut m k n size gate bytes sound_k honest_k place long is only did = (
  (did honest_k).most.reads ∙ is,
  gate_holds m k n size gate 1 bytes false sound_k honest_k place long is only did,
)
