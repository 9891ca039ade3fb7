-- What looks at a disk and a sync leave of it.
use Rattle.std.proofs.Common.{◌≡◌, ℕ, ◌-◌, ◌^◌, ◌+◌, ◌≤◌, Bool, true, false, cond, length, refl, sym, ap, subst, ◌∙◌, inl, arith}
use Rattle.std.specs.Prelude.{IsTrue}
use Rattle.std.specs.Option.{ForSome}
use Rattle.ports.specs.Faults.{Counts}
use Rattle.ports.proofs.Counting.{counts_none, counts_then}
use Rattle.disk_model.specs.Images.{Disk, Syncs, IsImage}
use Rattle.disk_model.specs.Meaning.{Meaning, IsSound}
use Rattle.disk_model.specs.Calls.{Kept, LeavesOnly, Looked, Within, Did, SameMoment, NextMoment}
use Rattle.disk_model.proofs.Crashes.{only_reads}
use Rattle.blob_disk.proofs.Clients.{kept_none, kept_then, leaves_then, leaves_weaker}
use Rattle.recovery.specs.Settling.{HasBegun, Spares}

within_same : (a b : Disk) → b ≡ a → Within b a
within_same a b same = record { reads = ap (λ d. d.reads) same; images = λ image is. subst (λ d. IsImage d image) same is }

within_then : (a b c : Disk) → Within b a → Within c b → Within c a
within_then a b c first next = record { reads = next.reads ∙ first.reads; images = λ image is. first.images image (next.images image is) }

pub spares_none : (m : Meaning) → Spares m m false
spares_none m = record {
  reads = λ honest. within_same m.state m.state refl;
  crash = λ honest. record { since = λ t image early left. inl left };
  kept = kept_none m;
  faults = counts_none m.faults;
}

pub spares_look : (m n : Meaning) (failed : Bool) → Looked m n → Kept m n → (IsTrue m.honest → LeavesOnly (IsImage n.state) m n) → Counts m.faults n.faults failed → Spares m n failed
spares_look m n failed looked kept time counts = record {
  reads = λ honest. within_same m.state n.state (looked honest);
  crash = λ honest. leaves_weaker (IsImage n.state) (IsImage m.state) m n (λ image is. subst (λ d. IsImage d image) (looked honest) is) (time honest);
  kept = kept;
  faults = counts;
}

within_sync : (m n : Meaning) (done : Bool) → IsSound m → IsTrue m.honest → Did (Syncs done) m n → Within n.state m.state
within_sync m n true sound honest did =
    let d = did honest in
    record { reads = d.most.reads; images = λ image is. subst (λ i. IsImage m.state i) (sym (only_reads m.state image (d.most.images image is))) (sound.image honest) }
within_sync m n false sound honest did = let d = did honest in record { reads = d.most.reads; images = d.most.images }

pub spares_sync : (m n : Meaning) (done failed : Bool) → IsSound m → Did (Syncs done) m n → Kept m n → LeavesOnly (IsImage n.state) m n → Counts m.faults n.faults failed → Spares m n failed
spares_sync m n done failed sound did kept time counts = record {
  reads = λ honest. within_sync m n done sound honest did;
  crash = λ honest. leaves_weaker (IsImage n.state) (IsImage m.state) m n (within_sync m n done sound honest did).images time;
  kept = kept;
  faults = counts;
}

pub spares_then : (a b c : Meaning) (failed : Bool) → Spares a b false → Spares b c failed → Spares a c failed
spares_then a b c failed first next = record {
  reads = λ honest. within_then a.state b.state c.state (first.reads honest) (next.reads (first.kept.honest ∙ honest));
  crash = λ honest. leaves_then (IsImage a.state) a b c first.kept (first.crash honest) (leaves_weaker (IsImage b.state) (IsImage a.state) b c (first.reads honest).images (next.crash (first.kept.honest ∙ honest)));
  kept = kept_then a b c first.kept next.kept;
  faults = counts_then a.faults b.faults c.faults false failed first.faults next.faults;
}

pub looked_then : (a b c : Meaning) → Kept a b → Looked a b → Looked b c → Looked a c
looked_then a b c kept first next honest = next (kept.honest ∙ honest) ∙ first honest

-- ---- the beginning

pub has_begun : (a b c : Meaning) (size moment faults : ℕ) → IsSound a → ForSome a.reads (λ file. size ≡ length file) → Looked a b → Kept a b → Did (Syncs true) b c → Kept b c
    → SameMoment a b → NextMoment b c → moment ≡ c.moment → faults ≡ c.faults → faults ≤ 2 ^ 64 - 1 → HasBegun size moment faults a c
has_begun a b c size moment faults sound told looked kept did after still next moment_is faults_is most = record {
  long = after.no_shorter size (kept.no_shorter size (λ file is. (let same = told file is in subst (λ n. size ≤ n) same (least size))));
  whole = λ honest. told a.state.reads (sound.reads honest);
  stable = λ honest image is. only_reads b.state image ((did (kept.honest ∙ honest)).most.images image is) ∙ ap (λ d. d.reads) (looked honest);
  moment_is = moment_is;
  faults_is = faults_is;
  most = subst (λ n. n ≤ 2 ^ 64 - 1) faults_is most;
  next = record {
    moment_is = next.moment_is ∙ (λ i. cond (kept.told i) (still.moment_is i + 1) (still.moment_is i));
    faults_is = next.faults_is ∙ still.faults_is;
  };
}
  where
    least : (n : ℕ) → n ≤ n
    least n = omega arith
