-- What a turn tells its seat.
use Rattle.std.proofs.Common.{◌≡◌, ℕ, ◌<◌, ◌≤◌, List, [], ◌∷◌, ◌++◌, ◌⊎◌, Option, None, Some, Result, Ok, Err, Bool, true, false, cond, not, refl, sym, ap, subst, ◌∙◌, arith, append-nil}
use Rattle.std.specs.Prelude.{MatchBool, MatchOption, IfSome, OnOk, OnErr, IsTrue, ◌↔◌, is_err, filter, nat_lt, nat_le}
use Rattle.std.specs.Fn.{Once}
use denote.Ref.{MutBor}
use mathlib.Core.Bool.{true≢false}
use mathlib.Core.List.{IsPrefix}
use Rattle.std.proofs.lemmas.Bool.{and_parts, ltb-true, lt-ltb}
use Rattle.std.proofs.lemmas.List.Elements.{filter-append}
use Rattle.disk_model.specs.Calls.{Kept}
use Rattle.bookmark_lock.specs.Lasting.{entered}
use Rattle.bookmark_lock.specs.Leaving.{Lasts}
use Rattle.bookmark_lock.proofs.Lasts.{entered_push}
use Rattle.bookmark_lock.proofs.Leavings.{bodies_both, lasts_then}
use Rattle.history_model.specs.History.{Entry, Fault, bodies, is_breaking, is_down, entries_by}
use Rattle.history_model.specs.Journal.{Header}
use Rattle.byte_fields.proofs.Lists.{prefix_self}
use Rattle.bookmark_lock.specs.Opening.{Opening}
use Rattle.bookmark_lock.specs.Place.{Place, Unsealed, moved, told_at}
use Rattle.bookmark_lock.specs.Turning.{Turn}
use Rattle.bookmark_lock.specs.Turns.{Entered, IsTurn, adds_unsealed, kept_after, still, stored_length, turn_of, with_one}
use Rattle.bookmark_lock.proofs.Waitings.{sealed_keeps_none}
use Rattle.reply_model.specs.After.{After, Answer, Call, Replies, SeesMore, calm_by, entry_by}
use Rattle.reply_model.proofs.Fronts.{replies_after}
use Rattle.repo_calls.specs.declared.calls.ChangeFault.{ChangeFault}
use Rattle.repo_state.specs.Groups.{is_sealed}
use Rattle.repo_state.specs.Images.{LeavesSeal}
use Rattle.repo_state.specs.declared.sealing.Sealing.{Sealing}
use Rattle.repo_state.specs.declared.sealing.Sealing.TheVariants.{Sealed, UnderWay, Syncs}
use Rattle.repo_state.specs.State.{IsSound, State, after_seal, breaks, reach}
use Rattle.shared_repo.specs.declared.turns.Placed.{Placed}
use Rattle.shared_repo.specs.Front.{IsFront, history_of, opening_of, sealed_of, disk_of, most_waiting}
use Rattle.shared_repo.specs.Sealed.{GoesOn, IsAt, IsEntered, IsLastTurn, IsLater, IsSeal, IsSealOf, IsSeen, IsSoundAt, IsState, IsTold, Tells, is_last, placed_answer, seen_at}
use Rattle.shared_repo.proofs.Lastings.{lasts_same, lasts_seal}
use Rattle.shared_repo.proofs.Stored.{fault_stores, stored_fault, stored_grows}

-- ---- the entry that a seat keeps

adds_less : (before after : List Entry) (n : ℕ) → adds_unsealed before after n ≡ true → stored_length before < stored_length after
adds_less before after n e = ltb-true (stored_length before) (stored_length after) (and_parts (nat_lt (stored_length before) (stored_length after)) (nat_le n (stored_length before)) e).0

-- of one that keeps none, it is stored in this turn
kept_below : (before after : List Entry) (n : ℕ) → IfSome (kept_after None before after n) (λ (u : Unsealed). u.last < stored_length after)
kept_below before after n = by (is_down after) (adds_unsealed before after n) refl
  where
    by : (down adds : Bool) → adds_unsealed before after n ≡ adds → IfSome (cond down None (cond adds (Some (with_one None (stored_length before))) None)) (λ (u : Unsealed). u.last < stored_length after)
    by true adds e = tt
    by false false e = tt
    by false true e = adds_less before after n e

-- where nothing was stored it keeps what it kept and isn't sealed
keeps_still : (u : Option Unsealed) (before after : List Entry) (n : ℕ) → stored_length after ≡ stored_length before → still u n ≡ None → kept_after u before after n ≡ None
keeps_still u before after n same none = by (is_down after) (adds_unsealed before after n) refl
  where
    by : (down adds : Bool) → adds_unsealed before after n ≡ adds → cond down None (cond adds (Some (with_one (still u n) (stored_length before))) (still u n)) ≡ None
    by true adds e = refl
    by false false e = none
    by false true e = let less = adds_less before after n e in absurd (omega arith)

kept_down : (u : Option Unsealed) (before after : List Entry) (n : ℕ) → is_down after ≡ true → kept_after u before after n ≡ None
kept_down u before after n down = ap (λ (d : Bool). cond d None (cond (adds_unsealed before after n) (Some (with_one (still u n) (stored_length before))) (still u n))) down

still_none : (u : Option Unsealed) (upto n : ℕ) → IfSome u (λ (x : Unsealed). x.last < upto) → upto ≤ n → still u n ≡ None
still_none None upto n below le = refl
still_none (Some x) upto n below le = ap (λ (b : Bool). cond b None (Some x)) (lt-ltb x.last n (omega arith))

still_below : (u : Option Unsealed) (upto n : ℕ) → IfSome u (λ (x : Unsealed). x.last < upto) → IfSome (still u n) (λ (x : Unsealed). x.last < upto)
still_below None upto n below = tt
still_below (Some x) upto n below = by (nat_lt x.last n)
  where
    by : (b : Bool) → IfSome (cond b None (Some x)) (λ (y : Unsealed). y.last < upto)
    by true = tt
    by false = below

-- where nothing was stored all that it keeps is of those of which it was
keeps_below : (u : Option Unsealed) (before after : List Entry) (n upto : ℕ) → stored_length after ≡ stored_length before → IfSome u (λ (x : Unsealed). x.last < upto) → IfSome (kept_after u before after n) (λ (x : Unsealed). x.last < upto)
keeps_below u before after n upto same below = by (is_down after) (adds_unsealed before after n) refl
  where
    by : (down adds : Bool) → adds_unsealed before after n ≡ adds → IfSome (cond down None (cond adds (Some (with_one (still u n) (stored_length before))) (still u n))) (λ (x : Unsealed). x.last < upto)
    by true adds e = tt
    by false false e = still_below u upto n below
    by false true e = let less = adds_less before after n e in absurd (omega arith)

-- ---- seals

seal_stores : (who : ℕ) (failed : Bool) (h new : List Entry) → new ≡ after_seal who failed h → stored_length new ≡ stored_length h
seal_stores who failed h new is = by (breaks failed h) is
  where
    by : (b : Bool) → new ≡ cond b (h ++ entry_by who (Fault true) ∷ []) h → stored_length new ≡ stored_length h
    by true e = ap stored_length e ∙ stored_fault h who true
    by false e = ap stored_length e

seal_bodies : (who : ℕ) (failed : Bool) (h new : List Entry) → new ≡ after_seal who failed h → bodies new ≡ bodies h
seal_bodies who failed h new is = by (breaks failed h) is
  where
    by : (b : Bool) → new ≡ cond b (h ++ entry_by who (Fault true) ∷ []) h → bodies new ≡ bodies h
    by true e = ap bodies e ∙ (bodies_both h (entry_by who (Fault true) ∷ []) ∙ append-nil (bodies h))
    by false e = ap bodies e

seal_enters : (who : ℕ) (failed : Bool) (h new : List Entry) → new ≡ after_seal who failed h → entered new ≡ entered h
seal_enters who failed h new is = by (breaks failed h) is
  where
    by : (b : Bool) → new ≡ cond b (h ++ entry_by who (Fault true) ∷ []) h → entered new ≡ entered h
    by true e = ap entered e ∙ (entered_push h (entry_by who (Fault true)) ∙ append-nil (entered h))
    by false e = ap entered e

seal_adds : (who : ℕ) (failed : Bool) (h new : List Entry) → new ≡ after_seal who failed h → MatchBool (breaks failed h) ((e : Entry) × (e.who ≡ who) × (new ≡ h ++ e ∷ [])) (new ≡ h)
seal_adds who failed h new is = by (breaks failed h) is
  where
    by : (b : Bool) → new ≡ cond b (h ++ entry_by who (Fault true) ∷ []) h → MatchBool b ((e : Entry) × (e.who ≡ who) × (new ≡ h ++ e ∷ [])) (new ≡ h)
    by true e = (entry_by who (Fault true), refl, e)
    by false e = e

pub seal_lasts : (who : ℕ) (failed : Bool) (before after : State) → after.history ≡ after_seal who failed before.history → before.header ≡ before.opening.header → before.sealed ≤ after.sealed → IsSound after.opening after.history after.sealed (reach after) after.disk → Kept before.disk after.disk
    → (reach before ≤ after.sealed) ⊎ (reach after ≡ reach before) → (IsTrue before.disk.honest → LeavesSeal before.header before.history before.sealed after.history after.sealed (reach after) before.disk after.disk)
    → Lasts before.opening.header (turn_of history_of sealed_of reach disk_of before) (turn_of history_of sealed_of reach disk_of after)
seal_lasts who failed before after is header seals sound kept reaches leaves =
    lasts_seal before.opening.header (turn_of history_of sealed_of reach disk_of before) (turn_of history_of sealed_of reach disk_of after) (seal_bodies who failed before.history after.history is) seals sound.reaches sound.within reaches kept
    (subst (λ (x : Header). IsTrue before.disk.honest → LeavesSeal x before.history before.sealed after.history after.sealed (reach after) before.disk after.disk) header leaves)

pub seal_turns : (who : ℕ) (failed added : Bool) (unsealed : Option Unsealed) (before after : State) → after.history ≡ after_seal who failed before.history → added ≡ breaks failed before.history → after.opening ≡ before.opening → before.sealed ≤ after.sealed
    → Lasts before.opening.header (turn_of history_of sealed_of reach disk_of before) (turn_of history_of sealed_of reach disk_of after) → IsTurn history_of opening_of sealed_of reach disk_of most_waiting who unsealed before after added
seal_turns who failed added unsealed before after is adds_is opened seals lasts =
    let adds = seal_adds who failed before.history after.history is in
    record {
      opened = opened;
      adds = subst (λ (b : Bool). MatchBool b ((e : Entry) × (e.who ≡ who) × (after.history ≡ before.history ++ e ∷ [])) (after.history ≡ before.history)) (sym adds_is) adds;
      seals = seals;
      lasts = lasts;
      ends = λ down. seal_enters who failed before.history after.history is;
      few = λ up more. (let same = seal_stores who failed before.history after.history is in
          let less = adds_less before.history after.history after.sealed more in absurd (omega arith));
    }

pub seal_turn : (who number : ℕ) (unsealed : Option Unsealed) (shown before left after : State) (added : Bool) → who ≡ number → shown ≡ before → left ≡ after → ((u : Option Unsealed) → IsTurn history_of opening_of sealed_of reach disk_of most_waiting who u shown left added)
    → IsTurn history_of opening_of sealed_of reach disk_of most_waiting number unsealed before after added
seal_turn who number unsealed shown before left after added who_is shows leaves turn =
    subst (λ (n : ℕ). IsTurn history_of opening_of sealed_of reach disk_of most_waiting n unsealed before after added) who_is
    (subst (λ (b : State). IsTurn history_of opening_of sealed_of reach disk_of most_waiting who unsealed b after added) shows
    (subst (λ (a : State). IsTurn history_of opening_of sealed_of reach disk_of most_waiting who unsealed shown a added) leaves (turn unsealed)))

pub seal_fails : {A E : Type 0} (result : Result A E) (down : Bool) (m n : ℕ) → IsTrue (is_err result) ↔ (IsTrue down × (m < n)) → OnErr result (down ≡ true)
seal_fails (Ok x) down m n told = tt
seal_fails (Err e) down m n told = (told.0 refl).0

-- ---- the steps of a seal

pub sealed_last : {F : Type 0} (E : Type 0) (step : Sealing F) → is_last {F = F} {E = E} (Ok step) ≡ true → is_sealed {F = F} {E = E} (Ok step) ≡ true
sealed_last E Sealed last = refl
sealed_last E UnderWay last = absurd (true≢false (sym last))
sealed_last E (Syncs flush) last = absurd (true≢false (sym last))

pub not_last : {F E : Type 0} (result : Result (Sealing F) E) → is_last result ≡ false → is_err result ≡ false
not_last (Ok step) going = refl
not_last (Err fault) going = absurd (true≢false going)

pub done_last : {F E : Type 0} (result : Result (Sealing F) E) (P : Type 0) → is_last result ≡ true → (is_sealed result ≡ true → P) → OnOk result P
done_last {F} {E} (Ok step) P last done = done (sealed_last E step last)
done_last {F} {E} (Err fault) P last done = tt

-- ---- a turn without an entry

pub still_turn : (who : ℕ) (before after : State) → after.history ≡ before.history → after.opening ≡ before.opening → after.sealed ≡ before.sealed → reach after ≡ reach before → after.disk ≡ before.disk → IsTurn history_of opening_of sealed_of reach disk_of most_waiting who None before after false
still_turn who before after same opened sealed reaches disk = record {
  opened = opened;
  adds = same;
  seals = omega arith;
  lasts = lasts_same before.opening.header (turn_of history_of sealed_of reach disk_of before) (turn_of history_of sealed_of reach disk_of after) sealed reaches disk;
  few = λ up more. omega arith;
  ends = λ down. ap entered same;
}

-- a turn that read the disk, or nothing of it
pub looked_turn : (who : ℕ) (before after : State) (added : Bool) → after.opening ≡ before.opening → MatchBool added ((e : Entry) × (e.who ≡ who) × (after.history ≡ before.history ++ e ∷ [])) (after.history ≡ before.history) → after.sealed ≡ before.sealed
    → Lasts before.opening.header (turn_of history_of sealed_of reach disk_of before) (turn_of history_of sealed_of reach disk_of after) → (is_down before.history ≡ true → entered after.history ≡ entered before.history) → IsTurn history_of opening_of sealed_of reach disk_of most_waiting who None before after added
looked_turn who before after added opened adds sealed lasts ends = record { opened = opened; adds = adds; seals = omega arith; lasts = lasts; few = λ up more. omega arith; ends = ends }

-- a turn from a state that is as this one, as far as the lock sees
pub turn_from : (who : ℕ) (before mid after : State) (added : Bool) → mid.history ≡ before.history → mid.opening ≡ before.opening → mid.sealed ≡ before.sealed → reach mid ≡ reach before → mid.disk ≡ before.disk → IsTurn history_of opening_of sealed_of reach disk_of most_waiting who None mid after added
    → IsTurn history_of opening_of sealed_of reach disk_of most_waiting who None before after added
turn_from who before mid after added same opening sealed reaches disk t =
    let seals = t.seals in
    record {
      opened = t.opened ∙ opening;
      adds = subst (λ (h : List Entry). MatchBool added ((e : Entry) × (e.who ≡ who) × (after.history ≡ h ++ e ∷ [])) (after.history ≡ h)) same t.adds;
      seals = omega arith;
      lasts = subst (λ (x : Opening × Turn). Lasts x.0.header x.1 (turn_of history_of sealed_of reach disk_of after)) (λ i. (opening i, record { log = same i; sealed = sealed i; reach = reaches i; disk = disk i })) t.lasts;
      few = λ up more. omega arith;
      ends = subst (λ (h : List Entry). is_down h ≡ true → entered after.history ≡ entered h) same t.ends;
    }

-- ---- what the lock tells

-- two moves are one
pub moved_twice : (first between last : Place) → between ≡ moved first between → last ≡ moved between last → last ≡ moved first last
moved_twice first between last one two = two ∙ ap (λ (p : Place). moved p last) one

module _ {F X : Type 0} (g : Once F (MutBor State × Unit {0}) ((Bool × X) × (MutBor State × Unit {0}))) (act : F) (seat now : Place) (answer : X) (e : Entered history_of opening_of sealed_of reach disk_of g act seat now answer) where
  front_is : now.front ≡ e.after.history
  front_is = ap (λ (p : Place). p.front) e.moved

  sealed_is : now.sealed ≡ e.after.sealed
  sealed_is = ap (λ (p : Place). p.sealed) e.moved

  disk_is : now.disk ≡ e.after.disk
  disk_is = ap (λ (p : Place). p.disk) e.moved

  reach_is : now.reach ≡ reach e.after
  reach_is = ap (λ (p : Place). p.reach) e.moved

  since_is : now.since ≡ now.sealed
  since_is = ap (λ (p : Place). p.since) e.moved ∙ sym sealed_is

  -- what it was told of the value
  told_is : told_at now ≡ turn_of history_of sealed_of reach disk_of e.after
  told_is = ap told_at e.moved

  sees_is : seen_at now ≡ turn_of history_of sealed_of reach disk_of e.after
  sees_is = ap seen_at e.moved

  unsealed_is : now.unsealed ≡ kept_after seat.unsealed e.before.history e.after.history e.after.sealed
  unsealed_is = ap (λ (p : Place). p.unsealed) e.moved

  keeps_of_none : seat.unsealed ≡ None → now.unsealed ≡ kept_after None e.before.history e.after.history e.after.sealed
  keeps_of_none none = unsealed_is ∙ ap (λ (u : Option Unsealed). kept_after u e.before.history e.after.history e.after.sealed) none

  pub sees_in : SeesMore seat.front seat.number e.before.history
  sees_in = record { begins = e.found.goes_on.begins; own = e.found.goes_on.own }

  -- in a turn in which the history stayed as it was
  pub sees_still : e.after.history ≡ e.before.history → SeesMore seat.front seat.number now.front
  sees_still same = subst (SeesMore seat.front seat.number) (sym (front_is ∙ same)) sees_in

  pub seals_in : seat.sealed ≤ now.sealed
  seals_in = let told = e.found.told in let more = e.seals in let is = sealed_is in omega arith

  pub later_in : IsLater seat now
  later_in = record {
    moved_is = e.moved ∙ ap (moved seat) (sym e.moved);
    begins = subst (λ (h : List Entry). IsPrefix seat.front h) (sym front_is) e.begins;
    seals = seals_in;
    lasts = subst (Lasts seat.lock.opening.header (told_at seat)) (sym told_is)
        (lasts_then seat.lock.opening.header (told_at seat) (turn_of history_of sealed_of reach disk_of e.before) (turn_of history_of sealed_of reach disk_of e.after) (grown e.added e.adds) e.found.lasts
        (subst (λ (o : Opening). Lasts o.header (turn_of history_of sealed_of reach disk_of e.before) (turn_of history_of sealed_of reach disk_of e.after)) e.found.opened e.lasts));
  }
    where
      grown : (added : Bool) → MatchBool added ((x : Entry) × (x.who ≡ seat.number) × (e.after.history ≡ e.before.history ++ x ∷ [])) (e.after.history ≡ e.before.history) → IsPrefix e.before.history e.after.history
      grown true h = (h.0 ∷ [], sym h.2)
      grown false h = subst (λ (l : List Entry). IsPrefix e.before.history l) (sym h) (prefix_self e.before.history)

  -- a seat that keeps no entry keeps none then, where nothing was stored
  pub keeps_none : seat.unsealed ≡ None → stored_length e.after.history ≡ stored_length e.before.history → now.unsealed ≡ None
  keeps_none none same = keeps_of_none none ∙ keeps_still None e.before.history e.after.history e.after.sealed same refl

  pub entered_in : (call : Call) (entered : Result Placed ChangeFault) → Replies e.before.opening.header e.before.history seat.number call (placed_answer entered) e.after.history → IsEntered seat.lock.opening.header seat call entered now.front
  entered_in call entered r = record {
    before = e.before.history;
    sees = sees_in;
    replies =
        let of_lock = subst (λ (header : Header). Replies header e.before.history seat.number call (placed_answer entered) e.after.history) (ap (λ o. o.header) e.found.opened) r in
        subst (λ (h : List Entry). Replies seat.lock.opening.header e.before.history seat.number call (placed_answer entered) h) (sym front_is) of_lock;
  }

  pub told_in : seat.unsealed ≡ None → (header : Header) (call : Call) (entered : Result Placed ChangeFault) → Replies header e.before.history seat.number call (placed_answer entered) e.after.history → Tells entered e.after → IsTold entered now
  told_in none header call (Ok placed) r t =
      let before = e.before.history in
      let after = e.after.history in
      let n = e.after.sealed in
      record {
        stored_is = t.0 ∙ ap stored_length (sym front_is);
        told = let is = sealed_is in let told = t.1 in omega arith;
        keeps = subst (λ (m : ℕ). IfSome now.unsealed (λ (x : Unsealed). x.last < m)) (sym t.0) (subst (λ (u : Option Unsealed). IfSome u (λ (x : Unsealed). x.last < stored_length after)) (sym (keeps_of_none none)) (kept_below before after n));
        all = λ le. keeps_of_none none ∙ sealed_keeps_none before after n (let stored = t.0 in let told = t.1 in omega arith);
      }
  told_in none header call (Err fault) r t = (keeps_none none (fault_stores header e.before.history e.after.history seat.number call fault t r), t)

  -- a seat that has no entry of its own past these sees them sealed, or a breaking fault
  module _ {A E : Type 0} (result : Result A E) (upto : ℕ) (history : e.after.history ≡ after_seal seat.number (is_err result) e.before.history) where
    calm_seal : calm_by seat.number e.after.history ≡ calm_by seat.number seat.front
    calm_seal = by (breaks (is_err result) e.before.history) history
      where
        is_calm : Entry → Bool
        is_calm x = not (is_breaking x.body)

        by : (b : Bool) → e.after.history ≡ cond b (e.before.history ++ entry_by seat.number (Fault true) ∷ []) e.before.history → calm_by seat.number e.after.history ≡ calm_by seat.number seat.front
        by true grew =
            ap (filter is_calm) (e.own_one (entry_by seat.number (Fault true)) grew)
            ∙ (filter-append is_calm (entries_by seat.number seat.front) (entry_by seat.number (Fault true) ∷ []) ∙ append-nil (calm_by seat.number seat.front))
        by false same = ap (filter is_calm) (e.own_none same)

    none_left : IfSome seat.unsealed (λ (x : Unsealed). x.last < upto) → OnOk result (upto ≤ e.after.sealed) → OnErr result (is_down e.after.history ≡ true) → now.unsealed ≡ None
    none_left below = by result history
      where
        by : (r : Result A E) → e.after.history ≡ after_seal seat.number (is_err r) e.before.history → OnOk r (upto ≤ e.after.sealed) → OnErr r (is_down e.after.history ≡ true) → now.unsealed ≡ None
        by (Ok x) is done failed =
            unsealed_is
            ∙ keeps_still seat.unsealed e.before.history e.after.history e.after.sealed (seal_stores seat.number false e.before.history e.after.history is) (still_none seat.unsealed upto e.after.sealed below done)
        by (Err x) is done failed = unsealed_is ∙ kept_down seat.unsealed e.before.history e.after.history e.after.sealed failed

    seen_in : IfSome seat.unsealed (λ (x : Unsealed). x.last < upto) → OnOk result (upto ≤ e.after.sealed) → OnErr result (is_down e.after.history ≡ true) → IsSeen seat now
    seen_in below done failed = record {
      begins = subst (λ (h : List Entry). IsPrefix seat.front h) (sym front_is) e.begins;
      own = ap (calm_by seat.number) front_is ∙ calm_seal;
      seals = seals_in;
      none = none_left below done failed;
    }

  -- by what the turn shows and leaves
  pub sealed_in : (who : ℕ) → who ≡ seat.number → {A E : Type 0} (result : Result A E) (upto : ℕ) (shown left : State) → shown ≡ e.before → left ≡ e.after → left.history ≡ after_seal who (is_err result) shown.history → IfSome seat.unsealed (λ (x : Unsealed). x.last < upto)
      → OnOk result (upto ≤ left.sealed) → OnErr result (is_down left.history ≡ true) → IsSeen seat now
  sealed_in who who_is result upto shown left shows leaves history below done failed =
      seen_in result upto
      (ap (λ (s : State). s.history) (sym leaves) ∙ (history ∙ (ap (λ (s : State). after_seal who (is_err result) s.history) shows ∙ ap (λ (n : ℕ). after_seal n (is_err result) e.before.history) who_is)))
      below (subst (λ (s : State). OnOk result (upto ≤ s.sealed)) leaves done) (subst (λ (s : State). OnErr result (is_down s.history ≡ true)) leaves failed)

  module _ (who : ℕ) (who_is : who ≡ seat.number) (shown left : State) (shows : shown ≡ e.before) (leaves : left ≡ e.after) where
    -- the seat knows the answer that it had in the turn
    pub replied_in : (call : Call) (answer : Answer) → Replies shown.opening.header shown.history who call answer left.history → After seat.lock.opening.header seat.front seat.number call answer now.front
    replied_in call answer r =
        let one = subst (λ (s : State). Replies s.opening.header s.history who call answer left.history) shows r in
        let two = subst (λ (s : State). Replies e.before.opening.header e.before.history who call answer s.history) leaves one in
        let three = subst (λ (n : ℕ). Replies e.before.opening.header e.before.history n call answer e.after.history) who_is two in
        let four = subst (λ (o : Opening). Replies o.header e.before.history seat.number call answer e.after.history) e.found.opened three in
        replies_after seat.lock.opening.header seat.front e.before.history seat.number call answer now.front sees_in (subst (λ (h : List Entry). Replies seat.lock.opening.header e.before.history seat.number call answer h) (sym front_is) four)

    -- and what was told in it
    pub told_of : seat.unsealed ≡ None → (call : Call) (entered : Result Placed ChangeFault) → Replies shown.opening.header shown.history who call (placed_answer entered) left.history → Tells entered left → IsTold entered now
    told_of none call entered r tells =
        let one = subst (λ (s : State). Replies s.opening.header s.history who call (placed_answer entered) left.history) shows r in
        let two = subst (λ (s : State). Replies e.before.opening.header e.before.history who call (placed_answer entered) s.history) leaves one in
        let three = subst (λ (n : ℕ). Replies e.before.opening.header e.before.history n call (placed_answer entered) e.after.history) who_is two in
        told_in none e.before.opening.header call entered three (subst (Tells entered) leaves tells)

    -- the last turn of a seal
    pub last_turn_in : (failed : Bool) → IsSealOf who failed shown left → IsLastTurn seat.lock.opening seat failed now
    last_turn_in failed s =
        let one = subst (λ (b : State). IsSealOf who failed b left) shows s in
        let two = subst (λ (a : State). IsSealOf who failed e.before a) leaves one in
        let three = subst (λ (n : ℕ). IsSealOf n failed e.before e.after) who_is two in
        let was = turn_of history_of sealed_of reach disk_of e.before in
        let four = subst (λ (o : Opening). IsSeal o seat.number failed was (turn_of history_of sealed_of reach disk_of e.after)) e.found.opened three.1 in
        record {
          began = was;
          begins = e.found.goes_on.begins;
          seen = e.found.told;
          since = e.found.lasts;
          seal = subst (IsSeal seat.lock.opening seat.number failed was) (sym sees_is) four;
          whole = subst (Lasts seat.lock.opening.header (told_at seat)) (told_is ∙ sym sees_is) later_in.lasts;
        }

    -- a step of a seal that goes on
    pub goes_in : {A E : Type 0} (result : Result A E) (upto : ℕ) → is_err result ≡ false → left.history ≡ after_seal who (is_err result) shown.history → IfSome seat.unsealed (λ (x : Unsealed). x.last < upto) → GoesOn upto seat now
    goes_in result upto fine history below =
        let same : e.after.history ≡ e.before.history = ap (λ (s : State). s.history) (sym leaves) ∙ (history ∙ (ap (λ (b : Bool). after_seal who b shown.history) fine ∙ ap (λ (s : State). s.history) shows)) in
        record {
          sees = sees_still same;
          later = later_in;
          keeps = subst (λ (u : Option Unsealed). IfSome u (λ (x : Unsealed). x.last < upto)) (sym unsealed_is) (keeps_below seat.unsealed e.before.history e.after.history e.after.sealed upto (ap stored_length same) below);
        }

    -- the state that the turn left
    pub state_in : (opening : Opening) → seat.lock.opening ≡ opening → IsSound left.opening left.history left.sealed (reach left) left.disk → IsState opening now
    state_in opening same s =
        let after = subst (λ (x : State). IsSound x.opening x.history x.sealed (reach x) x.disk) leaves s in
        let opened = subst (λ (o : Opening). IsSoundAt o (turn_of history_of sealed_of reach disk_of e.after)) (e.opened ∙ same) after in
        record { sound = subst (IsSoundAt opening) (sym sees_is) opened; told = since_is }

    pub front_in : IsFront left.opening left.history → IsFront now.lock.opening now.front
    front_in f =
        let after = subst (λ (s : State). IsFront s.opening s.history) leaves f in
        let opened = e.opened ∙ ap (λ (p : Place). p.lock.opening) (sym e.moved) in
        subst (λ (h : List Entry). IsFront now.lock.opening h) (sym front_is) (subst (λ (o : Opening). IsFront o e.after.history) opened after)

    pub stores_none : seat.unsealed ≡ None → stored_length left.history ≡ stored_length shown.history → now.unsealed ≡ None
    stores_none none same = keeps_none none (ap (λ (s : State). stored_length s.history) (sym leaves) ∙ (same ∙ ap (λ (s : State). stored_length s.history) shows))

    -- of a turn in which nothing may have come of the call
    pub told_maybe : seat.unsealed ≡ None → (call : Call) (found : Option (Result Placed ChangeFault)) → MatchOption found (left.history ≡ shown.history) (λ entered. Replies shown.opening.header shown.history who call (placed_answer entered) left.history)
        → IfSome found (λ entered. Tells entered left) → MatchOption found (now.unsealed ≡ None) (λ entered. IsTold entered now)
    told_maybe none call None same tells = stores_none none (ap stored_length same)
    told_maybe none call (Some entered) r tells = told_of none call entered r tells

-- so many are stored in what the seat finds
pub stored_in : (upto : ℕ) (g h : List Entry) → IsPrefix g h → upto ≤ stored_length g → upto ≤ stored_length h
stored_in upto g h p is = let more = stored_grows g h p in omega arith

-- where all is sealed already, no other turn is needed
pub seen_same : (placed : Placed) (seat : Place) → IsAt placed seat → placed.stored ≤ placed.sealed → IsSeen seat seat
seen_same placed seat at le = record { begins = prefix_self seat.front; own = refl; seals = omega arith; none = at.all le }
