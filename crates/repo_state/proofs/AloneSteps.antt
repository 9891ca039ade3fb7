-- A change of a repository that is served alone, once its entry is sealed.
use Rattle.std.proofs.Common.{◌≡◌, ℕ, ◌≤◌, ◌<◌, ◌||◌, true, false, refl, sym, ap, subst, ◌∙◌, arith, List, length, append-nil}
use Rattle.std.specs.Prelude.{◌⊎◌, Bool, Option, Result, Ok, Err, IsTrue}
use Rattle.std.specs.Option.{ForSome}
use Rattle.std.proofs.lemmas.Bool.{cases_lt}
use mathlib.Core.Logic.{inl, inr}
use mathlib.Core.Bool.{true≢false}
use Rattle.ports.specs.Faults.{Counts}
use Rattle.ports.proofs.Counting.{counts_none, counts_then, rose_then}
use Rattle.disk_model.specs.Images.{IsImage}
use Rattle.disk_model.specs.Calls.{LeavesOnly}
use Rattle.history_model.specs.History.{Entry, bodies, is_down}
use Rattle.history_model.specs.Journal.{Header}
use Rattle.reply_model.specs.After.{Call, Memory, nothing}
use Rattle.repo_calls.specs.Asking.{stored_answer}
use Rattle.repo_calls.specs.declared.ask.Granted.{Granted}
use Rattle.repo_calls.specs.declared.calls.ChangeFault.{ChangeFault}
use Rattle.repo_calls.specs.declared.calls.ChangeFault.TheVariants as changes
use Rattle.repo_state.specs.Alone.{RepliesAlone}
use Rattle.repo_state.specs.AloneSteps.{IsStored, IsSealedFor}
use Rattle.repo_state.specs.Cores.{StoresCallAlone}
use Rattle.repo_state.specs.Groups.{group_end, is_cut_off, is_under_way, reach_of}
use Rattle.repo_state.specs.Images.{LeavesChange, LeavesSeals, StandsNow}
use Rattle.repo_state.specs.State.{State, EndsWithin, IsSealedAlone, after_seal, breaks, reach}
use Rattle.repo_state.specs.declared.left.Left.{Left}
use Rattle.repo_state.proofs.Asked.{alone_for_call, any_wants, granted_ask}
use Rattle.repo_state.proofs.Chains.{leaves_nothing}
use Rattle.repo_state.proofs.Served.{ungranted, ungranted_leaves, granted_looked, granted_alone, granted_sealed, granted_leaves, granted_core, none_there, nothing_waits, failed_alone, failed_sealed, failed_leaves, failed_core, failed_breaks, seal_leaves}

-- nothing is sealed for what isn't granted
pub sealed_err : (before : State) (call : Call) (fault : ChangeFault) (between : State) → IsStored before call (Err fault) between → IsSealedFor before call between (Err fault) between
sealed_err before call fault between is =
    let u = ungranted before.sealed before.left fault is.idle is.all is.most is.undone is.replies is.core in
    let answer = stored_answer (Err fault) in
    record {
      all = subst (λ n. IsSealedAlone between.history n) (sym is.sealed) u.sealed;
      replies = u.replies;
      same = λ _ _. refl;
      leaves = λ _. leaves_nothing between.disk;
      faults = subst (λ b. Counts between.disk.faults between.disk.faults b) (sym is.undone) (counts_none between.disk.faults);
      core = subst (λ n. StoresCallAlone before.header before.history before.sealed before.left call answer between.history n between.left) (sym is.sealed)
          (subst (λ o. StoresCallAlone before.header before.history before.sealed before.left call answer between.history before.sealed o) (sym is.left) u.core);
    }

-- what the seal did, of a number of entries that were to be sealed
pub record Seals (between : State) (failed : Bool) (after : State) : Type 0 where
  pub history : after.history ≡ after_seal 0 failed between.history
  pub most : after.sealed ≤ length (bodies between.history)
  pub grows : between.sealed ≤ after.sealed
  pub still : length (bodies between.history) ≤ between.sealed → after ≡ between
  pub leaves : IsTrue between.disk.honest → LeavesSeals between.header between.history between.sealed (group_end between.sealed between.left) after.history after.sealed (reach after) between.disk after.disk
  pub faults : Counts between.disk.faults after.disk.faults (breaks failed between.history)
  pub broken : is_cut_off after.left ≡ is_down after.history
  pub ends : ForSome after.left (EndsWithin after.history after.sealed)
  pub idle : between.sealed < length (bodies between.history) → is_under_way after.left ≡ false
  pub reaches : after.sealed ≤ reach after
  pub within : reach after ≤ length (bodies after.history)

seal_leaves_for : (before : State) (call : Call) (stored : Result Granted ChangeFault) (between after : State) (failed : Bool) → IsStored before call stored between → Seals between failed after
    → IsTrue between.disk.honest → LeavesSeals before.header between.history before.sealed (group_end before.sealed before.left) after.history after.sealed (reach after) between.disk after.disk
seal_leaves_for before call stored between after failed is seals =
    seal_leaves before.header between.header between.history after.history before.sealed between.sealed after.sealed (reach after) before.left between.left between.disk after.disk is.header is.sealed is.left seals.leaves

-- no group is under way
still_idle : (before : State) (call : Call) (stored : Result Granted ChangeFault) (between after : State) (failed : Bool) → IsStored before call stored between → Seals between failed after → is_under_way after.left ≡ false
still_idle before call stored between after failed is seals = elim (cases_lt between.sealed (length (bodies between.history))) as (λ _. is_under_way after.left ≡ false) [
  | inl some ↦ seals.idle some
  | inr few ↦ ap (λ (s : State). is_under_way s.left) (seals.still (omega arith)) ∙ ap (λ (o : Option Left). is_under_way o) is.left ∙ is.idle
]

pub sealed_ok : (before : State) (call : Call) (granted : Granted) (between after : State) → IsStored before call (Ok granted) between → Seals between false after → length (bodies between.history) ≤ after.sealed
    → IsSealedFor before call between (Ok granted) after
sealed_ok before call granted between after is seals done =
    let a = granted_ask _ _ _ _ _ _ is.replies in
    let same = is.sealed in
    let grows = seals.grows in
    record {
      all = granted_sealed a.replies before.sealed is.all is.most after.history after.sealed seals.history done (omega arith);
      replies = alone_for_call a.asks (granted_alone a.replies before.sealed is.all is.most after.history seals.history);
      same = λ _ e. (let none = nothing_waits a.replies before.sealed is.all is.most (sym seals.history ∙ e) in ap (λ (s : State). s.disk) (seals.still (omega arith)));
      leaves = λ honest. granted_leaves a.replies before.sealed is.all is.most before.left after.history after.sealed (reach after) between.disk after.disk is.idle is.broken (ap (λ (h : List Entry). bodies h) seals.history) (omega arith) seals.reaches seals.within (seal_leaves_for before call (Ok granted) between after false is seals honest);
      faults = seals.faults;
      core = (a.ask, a.asks, granted_core a.replies before.sealed is.all is.most before.left after.left after.history after.sealed is.idle seals.history done seals.most (still_idle before call (Ok granted) between after false is seals) seals.broken);
    }

pub sealed_failed : (before : State) (call : Call) (granted : Granted) (between after : State) → IsStored before call (Ok granted) between → Seals between true after → (after.sealed ≡ between.sealed) ⊎ (after.sealed ≡ group_end between.sealed between.left) → after.sealed < length (bodies between.history)
    → IsSealedFor before call between (Err changes.DiskFault) after
sealed_failed before call granted between after is seals fails less =
    let a = granted_ask _ _ _ _ _ _ is.replies in
    let same = is.sealed in
    let none = is.left ∙ none_there a.replies before.sealed is.all is.most before.left is.idle is.broken in
    let kept : after.sealed ≡ between.sealed = elim fails as (λ _. after.sealed ≡ between.sealed) [ inl kept ↦ kept | inr ended ↦ ended ∙ ap (λ (o : Option Left). group_end between.sealed o) none ] in
    let waits : before.sealed < length (bodies between.history) = omega arith in
    record {
      all = failed_sealed a.replies before.sealed is.all is.most waits after.history after.sealed seals.history (kept ∙ same);
      replies = alone_for_call a.asks (failed_alone a.replies before.sealed is.all is.most waits after.history seals.history);
      same = λ fine _. absurd (true≢false fine);
      leaves = λ honest. failed_leaves a.replies before.sealed is.all is.most waits before.left after.history after.sealed (reach after) between.disk after.disk is.idle is.broken seals.history (omega arith) seals.reaches seals.within (seal_leaves_for before call (Ok granted) between after true is seals honest);
      faults = subst (λ b. Counts between.disk.faults after.disk.faults b) (failed_breaks a.replies before.sealed is.all is.most) seals.faults;
      core = (a.ask, a.asks, failed_core a.replies before.sealed is.all is.most waits before.left after.left after.history after.sealed is.idle is.broken seals.history (kept ∙ same) seals.broken seals.ends);
    }

-- before the seal the disk was read at most
pub stored_leaves : (before : State) (call : Call) (stored : Result Granted ChangeFault) (between : State) (new : List Entry) → IsStored before call stored between → (is_down before.history ≡ true → between.disk ≡ before.disk)
    → ((image : List ℕ) → IsImage between.disk.state image → StandsNow before.header between.history before.sealed (reach_of before.sealed before.left) image) → LeavesOnly (IsImage between.disk.state) before.disk between.disk
    → LeavesChange before.header before.history new before.disk between.disk
stored_leaves before call (Ok granted) between new is down stands only =
    granted_looked (granted_ask _ _ _ _ _ _ is.replies).replies before.sealed is.all is.most before.left new before.disk between.disk is.idle is.broken stands only
stored_leaves before call (Err fault) between new is down stands only =
    let u = ungranted before.sealed before.left fault is.idle is.all is.most is.undone is.replies is.core in
    ungranted_leaves before.header before.history between.history new before.sealed before.left before.disk between.disk is.all is.most u.bodies_same is.idle is.broken down stands only

-- a fault of a read, and then one of the seal
pub either_counts : (a b c : ℕ) (once failed : Bool) → Counts a b once → Counts b c failed → Counts a c (failed || once)
either_counts a b c once true before later = counts_then a b c once true before later
either_counts a b c once false before later = record {
  grows = (let p = before.grows in let q = later.grows in omega arith);
  most = λ h. later.most (before.most h);
  cause = λ fails. rose_then a b c false (before.cause fails) later;
}

-- for want of memory nothing is made
pub alone_memory : (header : Header) (h : List Entry) (who : ℕ) (call : Call) → RepliesAlone header h who call Memory h
alone_memory header h who call = record { made = nothing; answers = any_wants header h call; new_is = sym (append-nil h); made_first = λ e. absurd cc }
