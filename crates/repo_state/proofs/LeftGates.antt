-- The group that is being sealed or left over in a state of the core, and its gate.
use Rattle.std.proofs.Common.{◌≡◌, ℕ, Bool, true, false, List, [], ◌∷◌, refl, sym, ap, subst, ◌∙◌}
use Rattle.std.specs.Prelude.{if◌then◌else◌, nat_lt, MatchOption, Option, None, Some, option_map, slice_get}
use Rattle.std.specs.List.{AllByRecursion}
use Rattle.std.specs.Option.{option_and_then, option_map_or}
use mathlib.Core.Bool.{true≢false}
use Rattle.byte_fields.proofs.Booleans.{same_some}
use Rattle.history_model.specs.History.{Body, Entry, bodies, is_down}
use Rattle.history_model.specs.Journal.{Header}
use Rattle.reply_model.specs.Reply.{Ask, PutContent, PutWhole, PutChangeset, SetBookmark, LandDraft, SetPolicy, judge}
use Rattle.core_model.specs.Core.{State, Sealing, Step, PlanLanding, Exchange, Look, LayContent, WriteGroup, SyncGroup, OpenGate, Seal, Acknowledge, TakeJob, Settle, Crash, entered, entry_of, exchanged, is_as_planned, is_left_over, acknowledged_with, answer, when, may_be_kept, may_be_open as is_open, group_end as core_end, after_step, after_steps}
use Rattle.landing_core.specs.Steps.{IsLeft, Rests, is_idle, asking}
use Rattle.repo_journal.specs.declared.left.At.{At}
use Rattle.repo_journal.specs.declared.left.At.TheVariants as stages
use Rattle.repo_state.specs.Cores.{ShowsLeft, group_in, leaves_gate, stage_of}
use Rattle.repo_state.specs.Groups.{goes_on, group_end, is_under_way, may_be_open, opens_at}
use Rattle.repo_state.specs.declared.left.Left.{Left}

-- ---- what a state of the core shows of the group

pub idle_none : (left : Option Left) (s : State) → left ≡ None → ShowsLeft left s → is_idle s.sealing ≡ true
idle_none left s none shows = ap is_idle (shows ∙ ap group_in none)

-- where no group is under way, none is in the making
pub idle_by : (left : Option Left) (s : State) → is_under_way left ≡ false → ShowsLeft left s → is_idle s.sealing ≡ true
idle_by left s still shows = ap is_idle shows ∙ by left still
  where
    at_stage : (at : At) → goes_on at ≡ false → is_left_over (stage_of at) ≡ true
    at_stage stages.Laid e = absurd (true≢false e)
    at_stage stages.Opened e = absurd (true≢false e)
    at_stage (stages.Cut cut) e = refl

    by : (left : Option Left) → is_under_way left ≡ false → is_idle (group_in left) ≡ true
    by None e = refl
    by (Some l) e = at_stage l.at e

-- and where no breaking fault is held, none at all
none_idle : (o : Option Sealing) → IsLeft false o → is_idle o ≡ true → o ≡ None
none_idle None left idle = refl
none_idle (Some r) left idle = absurd (true≢false (sym idle ∙ left))

pub rests_none : (h : List Entry) (n : ℕ) (s : State) → is_down h ≡ false → Rests h n s → s.sealing ≡ None
rests_none h n s up rests = none_idle s.sealing (subst (λ b. IsLeft b s.sealing) up rests.0.left) rests.1

-- ---- it may be kept by a crash where the gate may stand open

gate_by : (at : At) → opens_at at ≡ true → is_open (stage_of at) ≡ true
gate_by stages.Laid e = absurd (true≢false (sym e))
gate_by stages.Opened e = refl
gate_by (stages.Cut cut) e = e

pub kept_by : (s : State) (left : Option Left) → ShowsLeft left s → may_be_open left ≡ true → may_be_kept s.sealing ≡ true
kept_by s left shows gate = ap may_be_kept shows ∙ by left gate
  where
    by : (left : Option Left) → may_be_open left ≡ true → may_be_kept (group_in left) ≡ true
    by None e = absurd (true≢false (sym e))
    by (Some l) e = gate_by l.at e

pub end_by : (s : State) (n : ℕ) (left : Option Left) → s.sealed ≡ n → ShowsLeft left s → core_end s ≡ group_end n left
end_by s n left sealed shows = ap (λ (o : Option Sealing). option_map_or (λ (r : Sealing). r.upto) o s.sealed) shows ∙ by left
  where
    by : (left : Option Left) → option_map_or (λ (r : Sealing). r.upto) (group_in left) s.sealed ≡ group_end n left
    by None = sealed
    by (Some l) = refl

-- ---- other steps

module _ (header : Header) (s : State) where
  -- where the step can be taken, the group is left as it was
  abbrev Leaves : Option State → Type 0
  Leaves o = MatchOption o (Unit {0}) (λ t. t.sealing ≡ s.sealing)

  allowed : (b : Bool) (t : State) → t.sealing ≡ s.sealing → Leaves (when b t)
  allowed true t same = same
  allowed false t same = tt

  mapped : {A : Type 0} (f : A → State) → ((a : A) → (f a).sealing ≡ s.sealing) → (o : Option A) → Leaves (option_map f o)
  mapped f each None = tt
  mapped f each (Some a) = each a

  either : (b : Bool) (x y : State) → x.sealing ≡ s.sealing → y.sealing ≡ s.sealing → (if b then x else y).sealing ≡ s.sealing
  either true x y p q = p
  either false x y p q = q

  entering : (who : ℕ) (o : Option Body) → (entered who o s).sealing ≡ s.sealing
  entering who None = refl
  entering who (Some body) = refl

  kept_if : (b : Bool) (o : Option State) → Leaves o → Leaves (if b then o else None)
  kept_if true o p = p
  kept_if false o p = tt

  answered : (who : ℕ) (numbers : List ℕ) → Leaves (answer s who numbers)
  answered who [] = tt
  answered who (number ∷ rest) = kept_if (nat_lt number s.sealed) _ (mapped (acknowledged_with s who number rest) (λ body. refl) (slice_get (bodies s.history) number))

  step_leaves : (step : Step) → leaves_gate step ≡ true → Leaves (after_step header s step)
  step_leaves (PlanLanding who name draft moment) e = refl
  step_leaves (Exchange who ask) e = allowed _ (exchanged header s who ask) (either (is_as_planned s.history (s.plan who) ask) _ _ (entering who (entry_of (judge header s.history ask))) refl)
  step_leaves (Look who done) e = either done _ _ refl refl
  step_leaves (LayContent who done) e = absurd (true≢false (sym e))
  step_leaves (WriteGroup who done) e = absurd (true≢false (sym e))
  step_leaves (SyncGroup who done) e = absurd (true≢false (sym e))
  step_leaves (OpenGate who done) e = absurd (true≢false (sym e))
  step_leaves (Seal who done) e = absurd (true≢false (sym e))
  step_leaves (Acknowledge who) e = answered who (s.waiting who)
  step_leaves (TakeJob x) e = mapped _ (λ job. refl) _
  step_leaves (Settle x) e = mapped _ (λ job. refl) _
  step_leaves (Crash kept) e = absurd (true≢false (sym e))

then_leaves : (header : Header) (steps : List Step) (s t : State) (o : Option State) → ((u : State) → after_steps header u steps ≡ Some t → t.sealing ≡ u.sealing) → MatchOption o (Unit {0}) (λ u. u.sealing ≡ s.sealing) → option_and_then (λ next. after_steps header next steps) o ≡ Some t → t.sealing ≡ s.sealing
then_leaves header steps s t None later same taken = absurd cc
then_leaves header steps s t (Some u) later same taken = later u taken ∙ same

pub steps_leave : (header : Header) (steps : List Step) (s t : State) → AllByRecursion (λ step. leaves_gate step ≡ true) steps → after_steps header s steps ≡ Some t → t.sealing ≡ s.sealing
steps_leave header [] s t all taken = ap (λ (x : State). x.sealing) (sym (same_some s t taken))
steps_leave header (step ∷ steps) s t all taken = then_leaves header steps s t (after_step header s step) (λ u taken. steps_leave header steps u t all.1 taken) (step_leaves header s step all.0) taken

pub gate_left : (header : Header) (left : Option Left) (steps : List Step) (s after : State) → AllByRecursion (λ step. leaves_gate step ≡ true) steps → after_steps header s steps ≡ Some after → ShowsLeft left s → ShowsLeft left after
gate_left header left steps s after all taken shows = steps_leave header steps s after all taken ∙ shows

-- the steps that ask a change
pub asking_leaves : (who : ℕ) (ask : Ask) → AllByRecursion (λ step. leaves_gate step ≡ true) (asking who ask)
asking_leaves who (PutContent bytes) = (refl, tt)
asking_leaves who (PutWhole body pieces) = (refl, tt)
asking_leaves who (PutChangeset bytes) = (refl, tt)
asking_leaves who (SetBookmark caller name from to) = (refl, tt)
asking_leaves who (LandDraft caller name draft moment) = (refl, (refl, tt))
asking_leaves who (SetPolicy caller text) = (refl, tt)
