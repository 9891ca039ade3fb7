-- The device calls that seal a group: all of them, up to one that fails, and those of each turn.
use Rattle.std.proofs.Common.{◌≡◌, ℕ, ◌<◌, Bool, true, false, List, [], ◌∷◌, ◌++◌, length, refl, sym, ap, subst, ◌∙◌}
use Rattle.std.specs.Prelude.{◌&&◌, not, Option, None, Some, is_none}
use Rattle.std.specs.Option.{option_and_then, option_map_or}
use mathlib.Core.Bool.{true≢false}
use Rattle.std.proofs.lemmas.Bool.{lt-ltb, not_from_false}
use Rattle.history_model.specs.History.{Fault, Entry, bodies, is_down}
use Rattle.history_model.specs.Journal.{Header}
use Rattle.reply_model.specs.After.{entry_by}
use Rattle.core_model.specs.Core.{Sealing, Stage, State, Step, Written, Flushed, Opened, LeftOver, LayContent, WriteGroup, SyncGroup, OpenGate, Seal, come_to, group_sealed, group_end, may_be_kept, is_left_over, broken, laid, written, device_call, when, after_step, after_steps}
use Rattle.landing_core.specs.Steps.{IsLeft, is_idle, Shows, Rests, ShowsAt, group_to, all_calls, Cut, AtWrite, AtSync, AtOpen, AtSeal, calls_to, Goes}
use Rattle.landing_core.proofs.Asked.{after_then, one_step}
use Rattle.landing_core.proofs.Down.{down-breaking}

-- ---- what a state that shows a history has

none_left : (o : Option Sealing) → IsLeft false o → is_idle o ≡ true → o ≡ None
none_left None left idle = refl
none_left (Some r) left idle = absurd (true≢false (sym idle ∙ left))

-- a group in the making is there only where no breaking fault is
making_up : (b : Bool) (upto : ℕ) (stage : Stage) → is_left_over stage ≡ false → IsLeft b (group_to upto stage) → b ≡ false
making_up false upto stage making left = refl
making_up true upto stage making left = absurd (true≢false (sym left ∙ making))

here_left : (h : List Entry) (n : ℕ) (s : State) → Shows h n s → IsLeft (is_down s.history) s.sealing
here_left h n s shows = subst (λ h. IsLeft (is_down h) s.sealing) (sym shows.history_is) shows.left

here_up : (h : List Entry) (n : ℕ) (s : State) → Shows h n s → is_down h ≡ false → is_down s.history ≡ false
here_up h n s shows up = ap is_down shows.history_is ∙ up

here_less : (h : List Entry) (n : ℕ) (s : State) → Shows h n s → n < length (bodies h) → s.sealed < length (bodies s.history)
here_less h n s shows less = subst (λ n. n < length (bodies s.history)) (sym shows.sealed_is) (subst (λ h. n < length (bodies h)) (sym shows.history_is) less)

-- after a call that failed
abbrev broke : List Entry → ℕ → List Entry
broke h who = h ++ entry_by who (Fault true) ∷ []

broken_shows : (s : State) (who upto : ℕ) (opening : Bool) → ShowsAt (broke s.history who) s.sealed (group_to upto (LeftOver opening)) (broken who upto opening s)
broken_shows s who upto opening = (record { history_is = refl; sealed_is = refl; left = subst (λ b. IsLeft b (group_to upto (LeftOver opening))) (sym (down-breaking s.history who)) refl }, refl)

come_shows : (s : State) (upto : ℕ) (stage : Stage) → is_left_over stage ≡ false → is_down s.history ≡ false → ShowsAt s.history s.sealed (group_to upto stage) (come_to upto stage s)
come_shows s upto stage making up = (record { history_is = refl; sealed_is = refl; left = subst (λ b. IsLeft b (group_to upto stage)) (sym up) making }, refl)

sealed_shows : (s : State) (upto : ℕ) → is_down s.history ≡ false → ShowsAt s.history upto None (group_sealed upto s)
sealed_shows s upto up = (record { history_is = refl; sealed_is = refl; left = subst (λ b. IsLeft b None) (sym up) tt }, refl)

-- ---- from where none is being sealed

-- the gate was to be opened as the call failed
abbrev opens_at : Cut → Bool
opens_at AtWrite = false
opens_at AtSync = false
opens_at AtOpen = true
opens_at AtSeal = true

module _ (header : Header) (s : State) (who : ℕ) (up : is_down s.history ≡ false) (none : s.sealing ≡ None) (less : s.sealed < length (bodies s.history)) where
  abbrev all : ℕ
  all = length (bodies s.history)

  begins : (done : Bool) → after_step header s (WriteGroup who done) ≡ Some (written s who done)
  begins done = (λ i. when (is_none (none i) && lt-ltb s.sealed all less i) (written s who done))

  after_write : (rest : List Step) → after_steps header s (WriteGroup who true ∷ rest) ≡ after_steps header (come_to all Written s) rest
  after_write rest = after_then header s (come_to all Written s) (WriteGroup who true ∷ []) rest (one_step header s (come_to all Written s) (WriteGroup who true) (begins true))

  seal_here : Goes header s (all_calls who) (ShowsAt s.history all None)
  seal_here = record {
    state = group_sealed all (come_to all Opened s);
    taken = after_write (SyncGroup who true ∷ OpenGate who true ∷ Seal who true ∷ []);
    meets = sealed_shows s all up;
  }

  cut_here : (cut : Cut) → Goes header s (calls_to who cut) (ShowsAt (broke s.history who) s.sealed (group_to all (LeftOver (opens_at cut))))
  cut_here AtWrite = record { state = broken who all false s; taken = one_step header s (broken who all false s) (WriteGroup who false) (begins false); meets = broken_shows s who all false }
  cut_here AtSync = record { state = broken who all false (come_to all Written s); taken = after_write (SyncGroup who false ∷ []); meets = broken_shows s who all false }
  cut_here AtOpen = record { state = broken who all true (come_to all Written s); taken = after_write (SyncGroup who true ∷ OpenGate who false ∷ []); meets = broken_shows s who all true }
  cut_here AtSeal = record { state = broken who all true (come_to all Written s); taken = after_write (SyncGroup who true ∷ OpenGate who true ∷ Seal who false ∷ []); meets = broken_shows s who all true }

  write_here : Goes header s (WriteGroup who true ∷ []) (ShowsAt s.history s.sealed (group_to all Written))
  write_here = record { state = come_to all Written s; taken = one_step header s (come_to all Written s) (WriteGroup who true) (begins true); meets = come_shows s all Written refl up }

goes_weaker : (header : Header) (s : State) (steps : List Step) (P Q : State → Type 0) → ((t : State) → P t → Q t) → Goes header s steps P → Goes header s steps Q
goes_weaker header s steps P Q f goes = record { state = goes.state; taken = goes.taken; meets = f goes.state goes.meets }

rests_sealed : (h : List Entry) (n : ℕ) (t : State) → ShowsAt h n None t → Rests h n t
rests_sealed h n t at = (at.0, ap is_idle at.1)

rests_broken : (h : List Entry) (n upto : ℕ) (opening : Bool) (t : State) → ShowsAt h n (group_to upto (LeftOver opening)) t → Rests h n t
rests_broken h n upto opening t at = (at.0, ap is_idle at.1)

here_none : (h : List Entry) (n : ℕ) (s : State) → Rests h n s → is_down h ≡ false → s.sealing ≡ None
here_none h n s rests up = none_left s.sealing (subst (λ b. IsLeft b s.sealing) up rests.0.left) rests.1

pub seal_goes : (header : Header) (h : List Entry) (n who : ℕ) (s : State) → is_down h ≡ false → n < length (bodies h) → Rests h n s → Goes header s (all_calls who) (Rests h (length (bodies h)))
seal_goes header h n who s up less rests =
    subst (λ h. Goes header s (all_calls who) (Rests h (length (bodies h)))) rests.0.history_is
    (goes_weaker header s (all_calls who) (ShowsAt s.history (length (bodies s.history)) None) (Rests s.history (length (bodies s.history))) (rests_sealed s.history (length (bodies s.history)))
    (seal_here header s who (here_up h n s rests.0 up) (here_none h n s rests up) (here_less h n s rests.0 less)))

pub cut_goes : (header : Header) (h : List Entry) (n who : ℕ) (s : State) (cut : Cut) → is_down h ≡ false → n < length (bodies h) → Rests h n s → Goes header s (calls_to who cut) (Rests (h ++ entry_by who (Fault true) ∷ []) n)
cut_goes header h n who s cut up less rests =
    let here_up = here_up h n s rests.0 up in
    let here_none = here_none h n s rests up in
    let here_less = here_less h n s rests.0 less in
    let upto = length (bodies s.history) in
    let opening = opens_at cut in
    subst (λ h. Goes header s (calls_to who cut) (Rests (broke h who) n)) rests.0.history_is
    (subst (λ n. Goes header s (calls_to who cut) (Rests (broke s.history who) n)) rests.0.sealed_is
    (goes_weaker header s (calls_to who cut) (ShowsAt (broke s.history who) s.sealed (group_to upto (LeftOver opening))) (Rests (broke s.history who) s.sealed) (rests_broken (broke s.history who) s.sealed upto opening)
    (cut_here header s who here_up here_none here_less cut)))

-- ---- the first turn

pub write_goes : (header : Header) (h : List Entry) (n who : ℕ) (s : State) → is_down h ≡ false → n < length (bodies h) → ShowsAt h n None s → Goes header s (WriteGroup who true ∷ []) (ShowsAt h n (group_to (length (bodies h)) Written))
write_goes header h n who s up less at =
    subst (λ h. Goes header s (WriteGroup who true ∷ []) (ShowsAt h n (group_to (length (bodies h)) Written))) at.0.history_is
    (subst (λ n. Goes header s (WriteGroup who true ∷ []) (ShowsAt s.history n (group_to (length (bodies s.history)) Written))) at.0.sealed_is
    (write_here header s who (here_up h n s at.0 up) at.1 (here_less h n s at.0 less)))

pub write_fails : (header : Header) (h : List Entry) (n who : ℕ) (s : State) → is_down h ≡ false → n < length (bodies h) → ShowsAt h n None s → Goes header s (WriteGroup who false ∷ []) (ShowsAt (h ++ entry_by who (Fault true) ∷ []) n (group_to (length (bodies h)) (LeftOver false)))
write_fails header h n who s up less at =
    subst (λ h. Goes header s (WriteGroup who false ∷ []) (ShowsAt (broke h who) n (group_to (length (bodies h)) (LeftOver false)))) at.0.history_is
    (subst (λ n. Goes header s (WriteGroup who false ∷ []) (ShowsAt (broke s.history who) n (group_to (length (bodies s.history)) (LeftOver false)))) at.0.sealed_is
    (cut_here header s who (here_up h n s at.0 up) at.1 (here_less h n s at.0 less) AtWrite))

-- ---- the second

module _ (header : Header) (s : State) (who upto : ℕ) (at : s.sealing ≡ group_to upto Written) (up : is_down s.history ≡ false) where
  syncs : (done : Bool) → after_step header s (SyncGroup who done) ≡ device_call (SyncGroup who done) upto Written s
  syncs done = ap (option_and_then (λ r. device_call (SyncGroup who done) r.upto r.stage s)) at

  after_sync : (rest : List Step) → after_steps header s (SyncGroup who true ∷ rest) ≡ after_steps header (come_to upto Flushed s) rest
  after_sync rest = after_then header s (come_to upto Flushed s) (SyncGroup who true ∷ []) rest (one_step header s (come_to upto Flushed s) (SyncGroup who true) (syncs true))

  open_here : Goes header s (SyncGroup who true ∷ OpenGate who true ∷ []) (ShowsAt s.history s.sealed (group_to upto Opened))
  open_here = record { state = come_to upto Opened s; taken = after_sync (OpenGate who true ∷ []); meets = come_shows s upto Opened refl up }

  sync_cut : Goes header s (SyncGroup who false ∷ []) (ShowsAt (broke s.history who) s.sealed (group_to upto (LeftOver false)))
  sync_cut = record { state = broken who upto false s; taken = one_step header s (broken who upto false s) (SyncGroup who false) (syncs false); meets = broken_shows s who upto false }

  open_cut : Goes header s (SyncGroup who true ∷ OpenGate who false ∷ []) (ShowsAt (broke s.history who) s.sealed (group_to upto (LeftOver true)))
  open_cut = record { state = broken who upto true (come_to upto Flushed s); taken = after_sync (OpenGate who false ∷ []); meets = broken_shows s who upto true }

-- where a group is in the making, no breaking fault is held
up_at : (h : List Entry) (n upto : ℕ) (stage : Stage) (s : State) → is_left_over stage ≡ false → ShowsAt h n (group_to upto stage) s → is_down s.history ≡ false
up_at h n upto stage s making at = making_up (is_down s.history) upto stage making (subst (IsLeft (is_down s.history)) at.1 (here_left h n s at.0))

pub open_goes : (header : Header) (h : List Entry) (n who upto : ℕ) (s : State) → ShowsAt h n (group_to upto Written) s → Goes header s (SyncGroup who true ∷ OpenGate who true ∷ []) (ShowsAt h n (group_to upto Opened))
open_goes header h n who upto s at =
    subst (λ h. Goes header s (SyncGroup who true ∷ OpenGate who true ∷ []) (ShowsAt h n (group_to upto Opened))) at.0.history_is
    (subst (λ n. Goes header s (SyncGroup who true ∷ OpenGate who true ∷ []) (ShowsAt s.history n (group_to upto Opened))) at.0.sealed_is
    (open_here header s who upto at.1 (up_at h n upto Written s refl at)))

pub sync_fails : (header : Header) (h : List Entry) (n who upto : ℕ) (s : State) → ShowsAt h n (group_to upto Written) s → Goes header s (SyncGroup who false ∷ []) (ShowsAt (h ++ entry_by who (Fault true) ∷ []) n (group_to upto (LeftOver false)))
sync_fails header h n who upto s at =
    subst (λ h. Goes header s (SyncGroup who false ∷ []) (ShowsAt (broke h who) n (group_to upto (LeftOver false)))) at.0.history_is
    (subst (λ n. Goes header s (SyncGroup who false ∷ []) (ShowsAt (broke s.history who) n (group_to upto (LeftOver false)))) at.0.sealed_is
    (sync_cut header s who upto at.1 (up_at h n upto Written s refl at)))

pub open_fails : (header : Header) (h : List Entry) (n who upto : ℕ) (s : State) → ShowsAt h n (group_to upto Written) s → Goes header s (SyncGroup who true ∷ OpenGate who false ∷ []) (ShowsAt (h ++ entry_by who (Fault true) ∷ []) n (group_to upto (LeftOver true)))
open_fails header h n who upto s at =
    subst (λ h. Goes header s (SyncGroup who true ∷ OpenGate who false ∷ []) (ShowsAt (broke h who) n (group_to upto (LeftOver true)))) at.0.history_is
    (subst (λ n. Goes header s (SyncGroup who true ∷ OpenGate who false ∷ []) (ShowsAt (broke s.history who) n (group_to upto (LeftOver true)))) at.0.sealed_is
    (open_cut header s who upto at.1 (up_at h n upto Written s refl at)))

-- ---- and the third

module _ (header : Header) (s : State) (who upto : ℕ) (at : s.sealing ≡ group_to upto Opened) (up : is_down s.history ≡ false) where
  ends : (done : Bool) → after_step header s (Seal who done) ≡ device_call (Seal who done) upto Opened s
  ends done = ap (option_and_then (λ r. device_call (Seal who done) r.upto r.stage s)) at

  end_here : Goes header s (Seal who true ∷ []) (ShowsAt s.history upto None)
  end_here = record { state = group_sealed upto s; taken = one_step header s (group_sealed upto s) (Seal who true) (ends true); meets = sealed_shows s upto up }

  end_cut : Goes header s (Seal who false ∷ []) (ShowsAt (broke s.history who) s.sealed (group_to upto (LeftOver true)))
  end_cut = record { state = broken who upto true s; taken = one_step header s (broken who upto true s) (Seal who false) (ends false); meets = broken_shows s who upto true }

pub end_goes : (header : Header) (h : List Entry) (n who upto : ℕ) (s : State) → ShowsAt h n (group_to upto Opened) s → Goes header s (Seal who true ∷ []) (ShowsAt h upto None)
end_goes header h n who upto s at =
    subst (λ h. Goes header s (Seal who true ∷ []) (ShowsAt h upto None)) at.0.history_is
    (end_here header s who upto at.1 (up_at h n upto Opened s refl at))

pub end_fails : (header : Header) (h : List Entry) (n who upto : ℕ) (s : State) → ShowsAt h n (group_to upto Opened) s → Goes header s (Seal who false ∷ []) (ShowsAt (h ++ entry_by who (Fault true) ∷ []) n (group_to upto (LeftOver true)))
end_fails header h n who upto s at =
    subst (λ h. Goes header s (Seal who false ∷ []) (ShowsAt (broke h who) n (group_to upto (LeftOver true)))) at.0.history_is
    (subst (λ n. Goes header s (Seal who false ∷ []) (ShowsAt (broke s.history who) n (group_to upto (LeftOver true)))) at.0.sealed_is
    (end_cut header s who upto at.1 (up_at h n upto Opened s refl at)))

-- ---- a content's bytes

lays : (header : Header) (s : State) (who : ℕ) (done : Bool) → is_down s.history ≡ false → after_step header s (LayContent who done) ≡ Some (laid s who done)
lays header s who done up = (λ i. when (not_from_false (is_down s.history) up i) (laid s who done))

pub lay_goes : (header : Header) (h : List Entry) (n who : ℕ) (group : Option Sealing) (s : State) → is_down h ≡ false → ShowsAt h n group s → Goes header s (LayContent who true ∷ []) (ShowsAt h n group)
lay_goes header h n who group s up at = record { state = s; taken = one_step header s s (LayContent who true) (lays header s who true (here_up h n s at.0 up)); meets = at }

pub lay_fails : (header : Header) (h : List Entry) (n who : ℕ) (group : Option Sealing) (s : State) → is_down h ≡ false → ShowsAt h n group s
    → Goes header s (LayContent who false ∷ []) (ShowsAt (h ++ entry_by who (Fault true) ∷ []) n (group_to (option_map_or (λ r. r.upto) group n) (LeftOver (may_be_kept group))))
lay_fails header h n who group s up at =
    subst (λ h. Goes header s (LayContent who false ∷ []) (ShowsAt (broke h who) n (group_to (option_map_or (λ r. r.upto) group n) (LeftOver (may_be_kept group))))) at.0.history_is
    (subst (λ n. Goes header s (LayContent who false ∷ []) (ShowsAt (broke s.history who) n (group_to (option_map_or (λ r. r.upto) group n) (LeftOver (may_be_kept group))))) at.0.sealed_is
    (subst (λ g. Goes header s (LayContent who false ∷ []) (ShowsAt (broke s.history who) s.sealed (group_to (option_map_or (λ r. r.upto) g s.sealed) (LeftOver (may_be_kept g))))) at.1
    (record {
      state = laid s who false;
      taken = one_step header s (laid s who false) (LayContent who false) (lays header s who false (here_up h n s at.0 up));
      meets = broken_shows s who (group_end s) (may_be_kept s.sealing);
    })))
