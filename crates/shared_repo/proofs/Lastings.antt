-- What a turn of a repository left of its disk.
use Rattle.std.proofs.Common.{◌≡◌, ◌⊎◌, ℕ, ◌≤◌, Bool, List, length, map, take, refl, sym, subst, inl, inr, ⊎_elim, arith}
use Rattle.std.specs.Prelude.{IsTrue}
use Rattle.disk_model.specs.Images.{IsImage}
use Rattle.disk_model.specs.Meaning.{Meaning, LeftSince}
use Rattle.disk_model.specs.Calls.{Kept, LeavesOnly}
use Rattle.history_model.specs.History.{Body, bodies, unnumbered}
use Rattle.history_model.specs.Journal.{Header, Stands}
use Rattle.bookmark_lock.specs.Leaving.{Lasts, StandsWithin}
use Rattle.bookmark_lock.specs.Turning.{Turn}
use Rattle.bookmark_lock.proofs.Disks.{kept_none}
use Rattle.bookmark_lock.specs.Opening.{Opening}
use Rattle.bookmark_lock.specs.Turns.{turn_of}
use Rattle.repo_state.specs.Groups.{reach_of}
use Rattle.repo_state.specs.Images.{LeavesSeal, StandsFor, StandsNow}
use Rattle.repo_state.specs.State.{IsSound, State, reach}
use Rattle.shared_repo.specs.Front.{history_of, sealed_of, disk_of}

pub kept_same : (a b : Meaning) → b ≡ a → Kept a b
kept_same a b same = subst (Kept a) (sym same) (kept_none a)

-- the disk wasn't asked
pub lasts_same : (header : Header) (was is : Turn) → is.sealed ≡ was.sealed → is.reach ≡ was.reach → is.disk ≡ was.disk → Lasts header was is
lasts_same header was is sealed reaches disk = record {
  seals = omega arith;
  reaches = inr reaches;
  kept = kept_same was.disk is.disk disk;
  leaves = λ honest. record { since = λ t image le left. inl (subst (λ (m : Meaning). LeftSince m t image) disk left) };
}

module _ (header : Header) (was is : Turn) (same : bodies is.log ≡ bodies was.log) (grows : was.sealed ≤ is.sealed) (sound : is.sealed ≤ is.reach) (within : is.reach ≤ length (bodies is.log)) where
  stands_now : (image : List ℕ) → StandsNow header is.log is.sealed is.reach image → StandsWithin header was.sealed is image
  stands_now image now = ⊎_elim
      (λ (s : StandsFor header is.log is.sealed image). record { first = is.sealed; no_fewer = grows; stored = omega arith; no_more = inl (omega arith); stands = s })
      (λ (s : StandsFor header is.log is.reach image). record { first = is.reach; no_fewer = omega arith; stored = within; no_more = inr refl; stands = s })
      now

  -- a step of a seal
  pub lasts_seal : (was.reach ≤ is.sealed) ⊎ (is.reach ≡ was.reach) → Kept was.disk is.disk → (IsTrue was.disk.honest → LeavesSeal header was.log was.sealed is.log is.sealed is.reach was.disk is.disk) → Lasts header was is
  lasts_seal reaches kept leaves = record {
    seals = grows;
    reaches = reaches;
    kept = kept;
    leaves = λ honest. record {
      since = λ t image le left. ⊎_elim
          (λ (before : LeftSince was.disk t image). inl before)
          (λ (s : StandsFor header was.log was.sealed image ⊎ StandsNow header is.log is.sealed is.reach image). inr (by image s))
          ((leaves honest).since t image le left);
    };
  }
    where
      by : (image : List ℕ) → StandsFor header was.log was.sealed image ⊎ StandsNow header is.log is.sealed is.reach image → StandsWithin header was.sealed is image
      by image s = ⊎_elim
          (λ (old : StandsFor header was.log was.sealed image). record {
            first = was.sealed;
            no_fewer = omega arith;
            stored = omega arith;
            no_more = inl grows;
            stands = subst (λ (bs : List Body). Stands header image (map unnumbered (take was.sealed bs))) (sym same) old;
          })
          (λ (now : StandsNow header is.log is.sealed is.reach image). stands_now image now)
          s

module _ (header : Header) (was is : Turn) (sealed : is.sealed ≡ was.sealed) (reaches : is.reach ≡ was.reach) (sound : is.sealed ≤ is.reach) (within : is.reach ≤ length (bodies is.log)) where
  -- the disk was read
  pub lasts_looked : Kept was.disk is.disk → (IsTrue was.disk.honest → (image : List ℕ) → IsImage is.disk.state image → StandsNow header is.log is.sealed is.reach image) → (IsTrue was.disk.honest → LeavesOnly (IsImage is.disk.state) was.disk is.disk) → Lasts header was is
  lasts_looked kept now leaves = record {
    seals = omega arith;
    reaches = inr reaches;
    kept = kept;
    leaves = λ honest. record {
      since = λ t image le left. ⊎_elim
          (λ (before : LeftSince was.disk t image). inl before)
          (λ (left_now : IsImage is.disk.state image). inr (by image (now honest image left_now)))
          ((leaves honest).since t image le left);
    };
  }
    where
      by : (image : List ℕ) → StandsNow header is.log is.sealed is.reach image → StandsWithin header was.sealed is image
      by image n = ⊎_elim
          (λ (s : StandsFor header is.log is.sealed image). record { first = is.sealed; no_fewer = omega arith; stored = omega arith; no_more = inl (omega arith); stands = s })
          (λ (s : StandsFor header is.log is.reach image). record { first = is.reach; no_fewer = omega arith; stored = within; no_more = inr refl; stands = s })
          n

-- ---- of a state

pub reach_same : (before after : State) → after.sealed ≡ before.sealed → after.left ≡ before.left → reach after ≡ reach before
reach_same before after sealed left = λ i. reach_of (sealed i) (left i)

pub state_same : (header : Header) (before after : State) → after.sealed ≡ before.sealed → after.left ≡ before.left → after.disk ≡ before.disk → Lasts header (turn_of history_of sealed_of reach disk_of before) (turn_of history_of sealed_of reach disk_of after)
state_same header before after sealed left disk = lasts_same header (turn_of history_of sealed_of reach disk_of before) (turn_of history_of sealed_of reach disk_of after) sealed (reach_same before after sealed left) disk

pub state_looked : (before after : State) → after.opening ≡ before.opening → after.sealed ≡ before.sealed → after.left ≡ before.left → IsSound after.opening after.history after.sealed (reach after) after.disk → Kept before.disk after.disk → (IsTrue before.disk.honest → LeavesOnly (IsImage after.disk.state) before.disk after.disk)
    → Lasts before.opening.header (turn_of history_of sealed_of reach disk_of before) (turn_of history_of sealed_of reach disk_of after)
state_looked before after opened sealed left sound kept leaves =
    let was = turn_of history_of sealed_of reach disk_of before in
    let is = turn_of history_of sealed_of reach disk_of after in
    lasts_looked before.opening.header was is sealed (reach_same before after sealed left) sound.reaches sound.within kept
    (λ honest image left_now. subst (λ (o : Opening). StandsNow o.header after.history after.sealed (reach after) image) opened ((sound.leaves (subst (λ (b : Bool). IsTrue b) (sym kept.honest) honest)).now image left_now))
    leaves
