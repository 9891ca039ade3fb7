-- A change's steps can be taken, and what comes of them shows the history after it.
use Rattle.std.proofs.Common.{◌≡◌, ℕ, Bool, true, false, cond, List, [], ◌∷◌, ◌++◌, refl, sym, ap, subst, ◌∙◌}
use Rattle.std.specs.Prelude.{◌≢◌, Option, None, Some, Ok}
use Rattle.std.specs.Option.{option_and_then}
use Rattle.std.proofs.lemmas.List.{append-nil}
use Rattle.history_model.specs.History.{Body, Entry, is_stored, is_down}
use Rattle.history_model.specs.Journal.{Header}
use Rattle.reply_model.specs.Reply.{Ask, PutContent, PutWhole, PutChangeset, SetBookmark, LandDraft, SetPolicy, Granted, judge}
use Rattle.reply_model.specs.After.{Answer, Grants, Refuses, Shows as Sees, Lacks, Roots, DiskFault, ReadFault, BadBytes, NodeCollision, Memory, Asks, Made, Answers, Replies, nothing, entry_by, entries_of}
use Rattle.reply_model.proofs.Granted.{MakesStored, judge_stored}
use Rattle.core_model.specs.Core.{Plan, Sealing, State, Step, PlanLanding, Exchange, set_for, plan_of, is_as_planned, entry_of, entered, exchanged, when, after_step, after_steps}
use Rattle.landing_core.specs.Steps.{IsLeft, Shows, MayAsk, asking, AreSteps, Goes}
use Rattle.landing_core.proofs.Down.{down-stored}
use Rattle.landing_core.proofs.Planned.{planned_here}
use Rattle.core_model.proofs.Cores.{some_is as same_some}

-- ---- lists of steps

then_by : (header : Header) (t : State) (first rest : List Step) (o : Option State) → ((next : State) → after_steps header next first ≡ Some t → after_steps header next (first ++ rest) ≡ after_steps header t rest) → option_and_then (λ next. after_steps header next first) o ≡ Some t → option_and_then (λ next. after_steps header next (first ++ rest)) o ≡ after_steps header t rest
then_by header t first rest None later e = absurd cc
then_by header t first rest (Some next) later e = later next e

pub after_then : (header : Header) (s t : State) (first rest : List Step) → after_steps header s first ≡ Some t → after_steps header s (first ++ rest) ≡ after_steps header t rest
after_then header s t [] rest e = ap (λ s. after_steps header s rest) (same_some s t e)
after_then header s t (step ∷ first) rest e = then_by header t first rest (after_step header s step) (λ next. after_then header next t first rest) e

pub one_step : (header : Header) (s t : State) (step : Step) → after_step header s step ≡ Some t → after_steps header s (step ∷ []) ≡ Some t
one_step header s t step e = ap (λ o. option_and_then (λ next. after_steps header next []) o) e

-- ---- an exchange

abbrev asked_as : State → ℕ → Bool → Option Body → State
asked_as s who planned entry = cond planned (entered who entry s) (record s { plan = set_for who None s.plan })

asked_none : (s : State) (who : ℕ) (planned : Bool) → IsLeft (is_down s.history) s.sealing → Shows s.history s.sealed (asked_as s who planned None)
asked_none s who true left = record { history_is = refl; sealed_is = refl; left = left }
asked_none s who false left = record { history_is = refl; sealed_is = refl; left = left }

shows_entered : (s : State) (who : ℕ) (body : Body) → IsLeft (is_down s.history) s.sealing → is_stored body ≡ true → Shows (s.history ++ entry_by who body ∷ []) s.sealed (entered who (Some body) s)
shows_entered s who body left stored = record { history_is = refl; sealed_is = refl; left = subst (λ b. IsLeft b s.sealing) (sym (down-stored s.history (entry_by who body) stored)) left }

-- Before the change some steps may have been taken, from a state that shows the same history.
module _ (header : Header) (start s : State) (before : List Step) (reaches : after_steps header start before ≡ Some s) (same : Shows s.history s.sealed start) (who : ℕ) (ask : Ask) (left : IsLeft (is_down s.history) s.sealing) (may : MayAsk s who ask) where
  abbrev asked : List Step
  asked = before ++ Exchange who ask ∷ []

  taken : after_step header s (Exchange who ask) ≡ Some (exchanged header s who ask)
  taken = (λ i. when (may.asks i) (exchanged header s who ask))

  after_asked : after_steps header start asked ≡ Some (exchanged header s who ask)
  after_asked = after_then header start s before (Exchange who ask ∷ []) reaches ∙ one_step header s (exchanged header s who ask) (Exchange who ask) taken

  exchanged_as : (planned : Bool) (entry : Option Body) → is_as_planned s.history (s.plan who) ask ≡ planned → entry_of (judge header s.history ask) ≡ entry → exchanged header s who ask ≡ asked_as s who planned entry
  exchanged_as planned entry p e = (λ i. asked_as s who (p i) (e i))

  -- nothing is made
  pub quiet : (new : List Entry) → new ≡ s.history → entry_of (judge header s.history ask) ≡ None → Goes header start asked (Shows new s.sealed)
  quiet new unchanged none = record {
    state = exchanged header s who ask;
    taken = after_asked;
    meets = subst (λ h. Shows h s.sealed (exchanged header s who ask)) (sym unchanged)
        (subst (Shows s.history s.sealed) (sym (exchanged_as (is_as_planned s.history (s.plan who) ask) None refl none)) (asked_none s who (is_as_planned s.history (s.plan who) ask) left));
  }

  -- another head than the planned one
  pub unplanned : is_as_planned s.history (s.plan who) ask ≡ false → Goes header start asked (Shows s.history s.sealed)
  unplanned moved = record {
    state = exchanged header s who ask;
    taken = after_asked;
    meets = subst (Shows s.history s.sealed) (sym (exchanged_as false (entry_of (judge header s.history ask)) moved refl)) (record { history_is = refl; sealed_is = refl; left = left });
  }

  -- an entry is made, and waits to be sealed
  made : (granted : Granted) (body : Body) → judge header s.history ask ≡ Ok (record { granted = granted; made = Some body }) → is_as_planned s.history (s.plan who) ask ≡ true → (new : List Entry) → new ≡ s.history ++ entry_by who body ∷ [] → Goes header start asked (Shows new s.sealed)
  made granted body is planned new grows = record {
    state = exchanged header s who ask;
    taken = after_asked;
    meets = subst (λ h. Shows h s.sealed (exchanged header s who ask)) (sym grows)
        (subst (Shows (s.history ++ entry_by who body ∷ []) s.sealed) (sym (exchanged_as true (Some body) planned (ap entry_of is)))
        (shows_entered s who body left (subst MakesStored is (judge_stored header s.history ask) body refl)));
  }

  abbrev Answered : Answer → List Entry → Type 0
  Answered answer new = (steps : List Step) × AreSteps asked answer steps × Goes header start steps (Shows new s.sealed)

  abbrev IsPlannedWhere : Type 0
  IsPlannedWhere = (granted : Granted) (body : Body) → judge header s.history ask ≡ Ok (record { granted = granted; made = Some body }) → is_as_planned s.history (s.plan who) ask ≡ true

  pub granted_by : (granted : Granted) (entry : Option Body) (new : List Entry) → IsPlannedWhere → judge header s.history ask ≡ Ok (record { granted = granted; made = entry }) → new ≡ s.history ++ entries_of who (record { entry = entry; fault = None }) → Goes header start asked (Shows new s.sealed)
  granted_by granted None new planned is grows = quiet new (grows ∙ append-nil s.history) (ap entry_of is)
  granted_by granted (Some body) new planned is grows = made granted body is (planned granted body is) new grows

  unmade_is : (made : Made) (new : List Entry) → made ≡ nothing → new ≡ s.history ++ entries_of who made → new ≡ s.history
  unmade_is made new none grows = grows ∙ ap (λ (m : Made). s.history ++ entries_of who m) none ∙ append-nil s.history

  pub answered : (answer : Answer) (made : Made) (new : List Entry) → answer ≢ DiskFault → IsPlannedWhere → Answers header s.history (Asks ask) answer made → new ≡ s.history ++ entries_of who made → Answered answer new
  answered (Grants granted) made new whole planned a grows = (asked, refl, granted_by granted made.entry new planned a.1 (grows ∙ (λ i. s.history ++ entries_of who (record { entry = made.entry; fault = a.0 i }))))
  answered (Refuses refusal) made new whole planned a grows = (asked, refl, quiet new (unmade_is made new a.0 grows) (ap entry_of a.1))
  answered (Sees seen) made new whole planned a grows = absurd a
  answered (Lacks absent) made new whole planned a grows = absurd a
  answered (Roots fsnode unode deleted) made new whole planned a grows = absurd a
  answered DiskFault made new whole planned a grows = absurd (whole refl)
  answered ReadFault made new whole planned a grows = absurd a
  answered (BadBytes wanted found) made new whole planned a grows = absurd a
  answered (NodeCollision x) made new whole planned a grows = absurd a.1
  answered Memory made new whole planned a grows = ([], refl, record { state = start; taken = refl; meets = subst (λ h. Shows h s.sealed start) (sym (unmade_is made new a grows)) same })

-- ---- whole calls

abbrev pub Stored : Header → ℕ → State → ℕ → Ask → Answer → List Entry → Type 0
Stored header n s who ask answer new = (steps : List Step) × AreSteps (asking who ask) answer steps × Goes header s steps (Shows new n)

no_landing : (h : List Entry) (plan : Option Plan) (ask : Ask) → asking 0 ask ≡ Exchange 0 ask ∷ [] → is_as_planned h plan ask ≡ true
no_landing h None (PutContent bytes) e = refl
no_landing h (Some plan) (PutContent bytes) e = refl
no_landing h None (PutWhole body pieces) e = refl
no_landing h (Some plan) (PutWhole body pieces) e = refl
no_landing h None (PutChangeset bytes) e = refl
no_landing h (Some plan) (PutChangeset bytes) e = refl
no_landing h None (SetBookmark caller name from to) e = refl
no_landing h None (SetPolicy caller text) e = refl
no_landing h (Some plan) (SetBookmark caller name from to) e = refl
no_landing h (Some plan) (SetPolicy caller text) e = refl
no_landing h plan (LandDraft caller name draft moment) e = absurd cc

stored_at : (header : Header) (s : State) (who : ℕ) (ask : Ask) (answer : Answer) (new : List Entry) → answer ≢ DiskFault → IsLeft (is_down s.history) s.sealing → MayAsk s who ask → Replies header s.history who (Asks ask) answer new → Stored header s.sealed s who ask answer new
stored_at header s who (PutContent bytes) answer new whole left may r =
    answered header s s [] refl (record { history_is = refl; sealed_is = refl; left = left }) who (PutContent bytes) left may answer r.made new whole (λ _ _ _. no_landing s.history (s.plan who) (PutContent bytes) refl) r.answers r.new_is
stored_at header s who (PutWhole body pieces) answer new whole left may r =
    answered header s s [] refl (record { history_is = refl; sealed_is = refl; left = left }) who (PutWhole body pieces) left may answer r.made new whole (λ _ _ _. no_landing s.history (s.plan who) (PutWhole body pieces) refl) r.answers r.new_is
stored_at header s who (PutChangeset bytes) answer new whole left may r =
    answered header s s [] refl (record { history_is = refl; sealed_is = refl; left = left }) who (PutChangeset bytes) left may answer r.made new whole (λ _ _ _. no_landing s.history (s.plan who) (PutChangeset bytes) refl) r.answers r.new_is
stored_at header s who (SetBookmark caller name from to) answer new whole left may r =
    answered header s s [] refl (record { history_is = refl; sealed_is = refl; left = left }) who (SetBookmark caller name from to) left may answer r.made new whole (λ _ _ _. no_landing s.history (s.plan who) (SetBookmark caller name from to) refl) r.answers r.new_is
stored_at header s who (SetPolicy caller text) answer new whole left may r =
    answered header s s [] refl (record { history_is = refl; sealed_is = refl; left = left }) who (SetPolicy caller text) left may answer r.made new whole (λ _ _ _. no_landing s.history (s.plan who) (SetPolicy caller text) refl) r.answers r.new_is
stored_at header s who (LandDraft caller name draft moment) answer new whole left may r =
    answered header s (record s { plan = set_for who (plan_of s.history name draft moment) s.plan }) (PlanLanding who name draft moment ∷ []) refl (record { history_is = refl; sealed_is = refl; left = left }) who (LandDraft caller name draft moment) left
    (record { asks = may.asks }) answer r.made new whole (planned_here header s.history who s.plan caller name draft moment) r.answers r.new_is

-- a change that is answered as the repository of one thread does
pub stored_goes : (header : Header) (h : List Entry) (n who : ℕ) (ask : Ask) (answer : Answer) (new : List Entry) (s : State) → answer ≢ DiskFault → Replies header h who (Asks ask) answer new → Shows h n s → MayAsk s who ask → Stored header n s who ask answer new
stored_goes header h n who ask answer new s whole r shows may =
    subst (λ n. Stored header n s who ask answer new) shows.sealed_is
    (stored_at header s who ask answer new whole (subst (λ h. IsLeft (is_down h) s.sealing) (sym shows.history_is) shows.left) may (subst (λ h. Replies header h who (Asks ask) answer new) (sym shows.history_is) r))
