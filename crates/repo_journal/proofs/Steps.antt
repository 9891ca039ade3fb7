-- A seal in three steps: what a crash may leave after each of them, and while the disk is read between them.
use Rattle.std.proofs.Common.{◌≡◌, ℕ, ◌+◌, ◌-◌, ◌<◌, Bool, true, false, List, [], ◌∷◌, length, refl, sym, ap, subst, ◌∙◌, arith}
use Rattle.std.specs.Prelude.{IsTrue}
use Rattle.disk_model.specs.Images.{Writes, Syncs, IsImage, write_at}
use Rattle.disk_model.specs.Meaning.{Meaning, IsLong, IsSound}
use Rattle.disk_model.specs.Calls.{Kept, LeavesOnly, Looked, Did}
use Rattle.blob_disk.proofs.Clients.{kept_then, leaves_then, leaves_weaker}
use Rattle.repo_journal.specs.Cuts.{HasGroup, IsCutOff, IsWithout}
use Rattle.repo_journal.specs.Groups.{IsGroup, IsWith, IsWithoutOrWith}
use Rattle.repo_journal.specs.Sealing.{AllClosed, IsClosed}
use Rattle.repo_journal.specs.Steps.{Leaves, StandsAt, UnderWay}
use Rattle.repo_journal.specs.declared.cut.Cut.TheVariants.{Sync, Open, Seal}
use Rattle.repo_journal.specs.declared.left.At.{At}
use Rattle.repo_journal.specs.declared.left.At.TheVariants.{Laid, Opened}
use Rattle.repo_journal.proofs.Cuts.{gate_holds, open_cut}
use Rattle.repo_journal.proofs.Groups.{group_closed}
use Rattle.repo_journal.proofs.Seals.{EachImage, with_group, gate_appends, gate_opens, one_more, sync_appends, sync_keeps, sync_settles, write_appends, write_leaves_none}

-- ---- between the steps

-- a read leaves it under way
pub under_way_read : (at : At) (size : ℕ) (bytes : List ℕ) (m now after : Meaning) → Kept now after → Looked now after → (IsTrue now.honest → LeavesOnly (IsImage after.state) now after) → UnderWay at size bytes m now → UnderWay at size bytes m after
under_way_read at size bytes m now after kept looked only u = record {
  sound = u.sound;
  kept = kept_then m now after u.kept kept;
  long = u.long;
  reaches = kept.no_shorter (size + length bytes) u.reaches;
  closed = u.closed;
  appends = λ honest. (
      let was = u.kept.honest ∙ honest in
      let each : EachImage (IsWithoutOrWith m.state size bytes) after = (λ image is. (u.appends honest).now image (subst (λ d. IsImage d image) (looked was) is)) in
      record { now = each; since = one_more (IsWithoutOrWith m.state size bytes) m now after u.kept (u.appends honest).since (only was) each });
  stands = λ honest. subst (λ d. StandsAt at size bytes m.state d) (sym (looked (u.kept.honest ∙ honest))) (u.stands honest);
}

-- ---- the first step

pub begins : (m now : Meaning) (size : ℕ) (bytes : List ℕ) → IsSound m → 0 < size → IsLong m.reads size → (IsTrue m.honest → AllClosed size m.state) → Kept m now → IsLong now.reads (size + length bytes) → Did (Writes size bytes true) m now → LeavesOnly (IsImage now.state) m now → UnderWay Laid size bytes m now
begins m now size bytes sound some long closed kept reaches did time = record {
  sound = sound;
  kept = kept;
  long = long;
  reaches = reaches;
  closed = closed;
  appends = λ honest. write_appends m now size bytes true sound honest some (closed honest) did time;
  stands = λ honest. ((did honest).most.reads, write_leaves_none m now size bytes true sound honest some (closed honest) did);
}

-- ---- a sync that is brought back

-- done or failed
pub sync_leaves : (at : At) (m a b : Meaning) (size : ℕ) (bytes : List ℕ) (done : Bool) → UnderWay at size bytes m a → IsTrue m.honest → IsSound a → Did (Syncs done) a b → LeavesOnly (IsImage b.state) a b → Leaves size bytes m a b
sync_leaves at m a b size bytes done u honest sound did time =
    let was = u.kept.honest ∙ honest in
    let all = sync_appends m a b size bytes done (u.appends honest) u.kept sound was did time in
    record { appends = all; since = leaves_weaker (IsImage b.state) (IsWithoutOrWith m.state size bytes) a b all.now time }

pub sync_cut : (m a b : Meaning) (size : ℕ) (bytes : List ℕ) → UnderWay Laid size bytes m a → IsTrue m.honest → IsSound a → Did (Syncs false) a b → IsCutOff Sync size bytes m.state b.state
sync_cut m a b size bytes u honest sound did =
    let was = u.kept.honest ∙ honest in
    let stands = u.stands honest in
    ((did was).most.reads ∙ stands.0, sync_keeps (IsWithout m.state size) a b false sound was did stands.1)

pub seal_cut : (m a b : Meaning) (size : ℕ) (bytes : List ℕ) → UnderWay Opened size bytes m a → IsTrue m.honest → IsSound a → Did (Syncs false) a b → IsCutOff Seal size bytes m.state b.state
seal_cut m a b size bytes u honest sound did =
    let was = u.kept.honest ∙ honest in
    let stands = u.stands honest in
    ((did was).most.reads ∙ stands.0, sync_keeps (HasGroup size bytes) a b false sound was did stands.1)

-- ---- the second step, of which the sync is done: k is the disk behind it

module _ (m a k n : Meaning) (size gate : ℕ) (bytes : List ℕ) (u : UnderWay Laid size bytes m a) (sound_a : IsSound a) (sound_k : IsSound k) (kept_k : Kept a k) (synced : Did (Syncs true) a k) (time_k : LeavesOnly (IsImage k.state) a k) (place : size ≡ gate + 1) where
  honest_k : IsTrue m.honest → IsTrue k.honest
  honest_k honest = kept_k.honest ∙ u.kept.honest ∙ honest

  reads_k : IsTrue m.honest → k.state.reads ≡ with_group size bytes m
  reads_k honest = (synced (u.kept.honest ∙ honest)).most.reads ∙ (u.stands honest).0

  -- done or failed
  pub gate_leaves : (done : Bool) → IsTrue m.honest → Did (Writes gate (1 ∷ []) done) k n → LeavesOnly (IsImage n.state) k n → Leaves size bytes m a n
  gate_leaves done honest did time =
      let before = sync_leaves Laid m a k size bytes true u honest sound_a synced time_k in
      let all = gate_appends m k n size gate 1 bytes done before.appends (kept_then m a k u.kept kept_k) u.sound honest sound_k (honest_k honest) place (u.long m.state.reads (u.sound.reads honest)) (reads_k honest) (sync_settles a k (u.kept.honest ∙ honest) synced) did time in
      record {
        appends = all;
        since = leaves_then (IsWithoutOrWith m.state size bytes) a k n kept_k before.since (leaves_weaker (IsImage n.state) (IsWithoutOrWith m.state size bytes) k n all.now time);
      }

  pub gate_cut : IsTrue m.honest → Did (Writes gate (1 ∷ []) false) k n → IsCutOff Open size bytes m.state n.state
  gate_cut honest did = open_cut m k n size gate bytes sound_k (honest_k honest) place (u.long m.state.reads (u.sound.reads honest)) (reads_k honest) (sync_settles a k (u.kept.honest ∙ honest) synced) did

  pub gate_opened : Kept k n → IsLong n.reads (size + length bytes) → Did (Writes gate (1 ∷ []) true) k n → LeavesOnly (IsImage n.state) k n → UnderWay Opened size bytes m n
  gate_opened kept_n reaches did time =
      let at_gate : gate ≡ size - 1 = omega arith in
      record {
        sound = u.sound;
        kept = kept_then m k n (kept_then m a k u.kept kept_k) kept_n;
        long = u.long;
        reaches = reaches;
        closed = u.closed;
        appends = λ honest. (gate_leaves true honest did time).appends;
        stands = λ honest. (
          (did (honest_k honest)).most.reads ∙ ap (write_at gate (1 ∷ [])) (reads_k honest) ∙ ap (λ i. write_at i (1 ∷ []) (with_group size bytes m)) at_gate,
          gate_holds m k n size gate 1 bytes true sound_k (honest_k honest) place (u.long m.state.reads (u.sound.reads honest)) (reads_k honest) (sync_settles a k (u.kept.honest ∙ honest) synced) did,
        );
      }

-- ---- the last step

pub seals : (m a b : Meaning) (size : ℕ) (bytes : List ℕ) → 0 < size → UnderWay Opened size bytes m a → IsTrue m.honest → Did (Syncs true) a b → (image : List ℕ) → IsImage b.state image → IsWith m.state size bytes image
seals m a b size bytes some u honest did image h =
    let was = u.kept.honest ∙ honest in
    let reads = sync_settles a b was did image h ∙ (did was).most.reads ∙ (u.stands honest).0 in (
      m.state.reads,
      u.sound.image honest,
      gate_opens m size (size - 1) bytes (with_group size bytes m) image (omega arith) (u.long m.state.reads (u.sound.reads honest)) refl reads,
    )

pub seals_closed : (m : Meaning) (size : ℕ) (bytes image : List ℕ) → 0 < size → (IsTrue m.honest → AllClosed size m.state) → IsTrue m.honest → IsGroup bytes → IsWith m.state size bytes image → IsClosed (size + length bytes) image
seals_closed m size bytes image some closed honest is after = group_closed size bytes after.0 image some (closed honest after.0 after.1) is after.2
