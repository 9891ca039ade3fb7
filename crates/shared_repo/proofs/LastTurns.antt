-- The last turn of a change: what is known of the states in which it began and ended.
use Rattle.std.proofs.Common.{◌≡◌, ℕ, ◌≤◌, Bool, true, false, cond, not, List, [], ◌∷◌, ◌++◌, length, Result, Ok, Err, refl, sym, ap, subst, ◌∙◌, arith, length-append}
use Rattle.std.specs.Prelude.{IsTrue, OnErr, OnOk, is_err}
use mathlib.Core.Logic.{inl, inr}
use Rattle.std.proofs.lemmas.Bool.{cases_lt}
use mathlib.Core.Bool.{true≢false}
use Rattle.ports.proofs.Counting.{counts_none}
use Rattle.ports.specs.Faults.{Counts}
use Rattle.disk_model.specs.Calls.{Kept}
use mathlib.Core.List.{IsPrefix}
use Rattle.byte_fields.proofs.Lists.{prefix_self, prefix_trans}
use Rattle.bookmark_lock.proofs.Disks.{kept_none}
use Rattle.bookmark_lock.proofs.Leavings.{lasts_none, lasts_then}
use Rattle.bookmark_lock.specs.Leaving.{Lasts}
use Rattle.history_model.specs.History.{Entry, Fault, is_down}
use Rattle.history_model.specs.Journal.{Header}
use Rattle.reply_model.specs.After.{Call, entries_of, entry_by}
use Rattle.repo_calls.specs.Asking.{is_disk_fault}
use Rattle.repo_calls.specs.declared.ask.Granted.{Granted}
use Rattle.repo_calls.specs.declared.calls.ChangeFault.{ChangeFault}
use Rattle.repo_calls.specs.declared.calls.ChangeFault.TheVariants as faults
use Rattle.repo_state.specs.Images.{LeavesSeal}
use Rattle.repo_state.specs.State.{IsSound, State, after_seal, breaks, reach}
use Rattle.bookmark_lock.specs.Opening.{Opening}
use Rattle.bookmark_lock.specs.Place.{Place, told_at}
use Rattle.shared_repo.specs.declared.turns.Placed.{Placed}
use Rattle.shared_repo.specs.Front.{IsFront}
use Rattle.shared_repo.specs.Sealed.{IsEntered, IsLastTurn, IsLater, IsSeal, IsSealOf, IsState, UnlessRefused, seen_at}

-- ---- a seal

longer : (h : List Entry) (e : Entry) → h ++ e ∷ [] ≡ h → ⊥
longer h e same = let more = length-append h (e ∷ []) in let len = ap (λ (g : List Entry). length g) same in absurd (omega arith)

-- a seal that added nothing failed nowhere, or a breaking fault was held
sealed_or_down : {A E : Type 0} (result : Result A E) (who n after upto : ℕ) (h new : List Entry) → new ≡ after_seal who (is_err result) h → (upto ≤ n → ⊥) → OnOk result (upto ≤ after) → after ≡ n → new ≡ h → is_down h ≡ true
sealed_or_down (Ok x) who n after upto h new is more done same still = absurd (more (omega arith))
sealed_or_down (Err e) who n after upto h new is more done same still = by (is_down h) (sym is ∙ still)
  where
    by : (b : Bool) → cond (not b) (h ++ entry_by who (Fault true) ∷ []) h ≡ h → b ≡ true
    by true q = refl
    by false q = absurd (longer h (entry_by who (Fault true)) q)

seal_still : {A E : Type 0} (result : Result A E) (who upto : ℕ) (before after : State) → after.history ≡ after_seal who (is_err result) before.history → OnOk result (upto ≤ after.sealed) → (upto ≤ before.sealed → after ≡ before) → (is_down before.history ≡ true → after ≡ before)
    → after.sealed ≡ before.sealed → after.history ≡ before.history → after.disk ≡ before.disk
seal_still result who upto before after is done enough down same still = elim (cases_lt before.sealed upto) as (λ _. after.disk ≡ before.disk) [
  | inl more ↦ ap (λ (s : State). s.disk) (down (sealed_or_down result who before.sealed after.sealed upto before.history after.history is (λ le. omega arith) done same still))
  | inr le ↦ ap (λ (s : State). s.disk) (enough (omega arith))
]

seal_fails_still : {A E : Type 0} (result : Result A E) (n after : ℕ) → OnErr result (after ≡ n) → is_err result ≡ true → after ≡ n
seal_fails_still (Ok x) n after fails failed = absurd (true≢false (sym failed))
seal_fails_still (Err e) n after fails failed = fails

pub seal_of : {A E : Type 0} (result : Result A E) (who upto : ℕ) (before after : State) → IsSound before.opening before.history before.sealed (reach before) before.disk → before.header ≡ before.opening.header → after.opening ≡ before.opening → IsSound after.opening after.history after.sealed (reach after) after.disk
    → after.history ≡ after_seal who (is_err result) before.history → before.sealed ≤ after.sealed → OnErr result (after.sealed ≡ before.sealed) → Kept before.disk after.disk → Counts before.disk.faults after.disk.faults (breaks (is_err result) before.history)
    → (IsTrue before.disk.honest → LeavesSeal before.header before.history before.sealed after.history after.sealed (reach after) before.disk after.disk) → OnOk result (upto ≤ after.sealed) → (upto ≤ before.sealed → after ≡ before) → (is_down before.history ≡ true → after ≡ before) → IsSealOf who (is_err result) before after
seal_of result who upto before after began header opened ended history grows fails kept faults leaves done enough down = (
  opened,
  record {
    began = began;
    ended = subst (λ (o : Opening). IsSound o after.history after.sealed (reach after) after.disk) opened ended;
    history_is = history;
    grows = grows;
    fails = seal_fails_still result before.sealed after.sealed fails;
    kept = kept;
    faults = faults;
    leaves = subst (λ (x : Header). IsTrue before.disk.honest → LeavesSeal x before.history before.sealed after.history after.sealed (reach after) before.disk after.disk) header leaves;
    still = seal_still result who upto before after history done enough down;
  },
)

-- ---- a turn in which nothing is sealed

pub turn_still : (opening : Opening) (seat : Place) → IsState opening seat → IsLastTurn opening seat false seat
turn_still opening seat s =
    let header = opening.header in
    let same : told_at seat ≡ seen_at seat = ap (λ (n : ℕ). record { log = seat.front; sealed = n; reach = seat.reach; disk = seat.disk }) s.told in
    let lasts : Lasts header (told_at seat) (seen_at seat) = subst (Lasts header (told_at seat)) same (lasts_none header (told_at seat)) in
    record {
      began = seen_at seat;
      begins = prefix_self seat.front;
      seen = omega arith;
      since = lasts;
      seal = record {
        began = s.sound;
        ended = s.sound;
        history_is = refl;
        grows = omega arith;
        fails = λ failed. refl;
        kept = kept_none seat.disk;
        faults = counts_none seat.disk.faults;
        leaves = λ honest. record { since = λ t image le left. inl left };
        still = λ _ _. refl;
      };
      whole = lasts;
    }

pub entered_begins : (header : Header) (old : Place) (call : Call) (result : Result Placed ChangeFault) (new : List Entry) → IsEntered header old call result new → IsPrefix old.front new
entered_begins header old call result new e = prefix_trans old.front e.before new e.sees.begins (entries_of old.number e.replies.made, sym e.replies.new_is)

-- what a seat had seen begins what it sees in the end
turn_begins : (opening : Opening) (old new : Place) (failed : Bool) → IsLastTurn opening old failed new → IsPrefix old.front new.front
turn_begins opening old new failed t = prefix_trans old.front t.began.log new.front t.begins (by (breaks failed t.began.log) t.seal.history_is)
  where
    by : (b : Bool) → new.front ≡ cond b (t.began.log ++ entry_by old.number (Fault true) ∷ []) t.began.log → IsPrefix t.began.log new.front
    by true is = (entry_by old.number (Fault true) ∷ [], sym is)
    by false is = subst (IsPrefix t.began.log) (sym is) (prefix_self t.began.log)

pub turn_later : (opening : Opening) (old mid new : Place) (failed : Bool) → old.lock.opening ≡ opening → IsLater old mid → IsLastTurn opening mid failed new → IsLastTurn opening old failed new
turn_later opening old mid new failed opened later t =
    let seen = t.seen in
    let seals = later.seals in
    let number : mid.number ≡ old.number = ap (λ (p : Place). p.number) later.moved_is in
    let lasts = subst (λ (o : Opening). Lasts o.header (told_at old) (told_at mid)) opened later.lasts in
    record {
      began = t.began;
      begins = prefix_trans old.front mid.front t.began.log later.begins t.begins;
      seen = omega arith;
      since = lasts_then opening.header (told_at old) (told_at mid) t.began t.begins lasts t.since;
      seal = subst (λ who. IsSeal opening who failed t.began (seen_at new)) number t.seal;
      whole = lasts_then opening.header (told_at old) (told_at mid) (seen_at new) (turn_begins opening mid new failed t) lasts t.whole;
    }

pub turn_front : (opening : Opening) (old new : Place) (failed : Bool) → IsLastTurn opening old failed new → IsFront opening new.front
turn_front opening old new failed t = record { legal = t.seal.ended.legal; calm = t.seal.ended.calm }

pub turn_unless : {T : Type 0} (opening : Opening) (old new : Place) (failed : Bool) (result : Result T ChangeFault) → IsLastTurn opening old failed new → UnlessRefused result (IsLastTurn opening old failed new)
turn_unless opening old new failed (Ok x) t = t
turn_unless opening old new failed (Err faults.DiskFault) t = t
turn_unless opening old new failed (Err faults.ReadFault) t = t
turn_unless opening old new failed (Err (faults.BadBytes wanted found)) t = t
turn_unless opening old new failed (Err (faults.Refused refusal)) t = tt

-- also where the change may have been refused
pub unless_later : {T : Type 0} (opening : Opening) (old mid new : Place) (failed : Bool) (result : Result T ChangeFault) → old.lock.opening ≡ opening → IsLater old mid → UnlessRefused result (IsLastTurn opening mid failed new) → UnlessRefused result (IsLastTurn opening old failed new)
unless_later opening old mid new failed (Ok x) opened later t = turn_later opening old mid new failed opened later t
unless_later opening old mid new failed (Err faults.DiskFault) opened later t = turn_later opening old mid new failed opened later t
unless_later opening old mid new failed (Err faults.ReadFault) opened later t = turn_later opening old mid new failed opened later t
unless_later opening old mid new failed (Err (faults.BadBytes wanted found)) opened later t = turn_later opening old mid new failed opened later t
unless_later opening old mid new failed (Err (faults.Refused refusal)) opened later t = tt

-- what the disk didn't fail, whatever is granted
pub undone : (fault : ChangeFault) → is_disk_fault {T = Placed} (Err fault) ≡ false → is_disk_fault {T = Granted} (Err fault) ≡ false
undone (faults.Refused refusal) e = refl
undone faults.DiskFault e = absurd (true≢false e)
undone faults.ReadFault e = refl
undone (faults.BadBytes wanted found) e = refl
