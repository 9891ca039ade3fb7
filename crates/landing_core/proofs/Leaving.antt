-- What a step that is no step of manifests leaves: the manifests, the jobs, and the history but for more entries.
use Rattle.std.proofs.Common.{◌≡◌, ℕ, Bool, true, false, cond, List, [], ◌∷◌, ◌++◌, length, refl, sym, ap, subst, ◌∙◌, append_assoc}
use Rattle.std.specs.Prelude.{Option, None, Some, is_some, is_none, not, ◌&&◌, nat_lt, slice_get, option_map, if◌then◌else◌, find, bytes_eq}
use Rattle.std.specs.List.{AllByRecursion}
use Rattle.std.specs.Option.{option_and_then}
use mathlib.Core.Bool.{true≢false}
use Rattle.std.proofs.lemmas.List.{append-nil}
use Rattle.byte_fields.specs.Bytes.{Id}
use Rattle.byte_fields.proofs.Lists.{weaker}
use Rattle.history_model.specs.History.{Body, Fault, Entry, Known, bodies, is_down, known}
use Rattle.history_model.specs.Journal.{Header}
use Rattle.manifest_model.specs.Manifests.{Manifests, manifests_in, Job}
use Rattle.reply_model.specs.Reply.{Ask, is_ask, judge}
use Rattle.reply_model.proofs.Lines.{known_grows, past_grows}
use Rattle.core_model.specs.Core.{State, Step, Sealing, Stage, Written, Flushed, Opened, PlanLanding, Exchange, Look, LayContent, WriteGroup, SyncGroup, OpenGate, Seal, Acknowledge, TakeJob, Settle, Crash, set_for, is_as_planned, entry_of, entered, exchanged, added, broken, come_to, group_sealed, group_end, may_be_kept, laid, written, device_call, acknowledged_with, answer, settled_in, after_step, after_steps}
use Rattle.core_model.proofs.Cores.{some_is, when_ok}
use Rattle.landing_core.specs.Settled.{IsRow, IsTaken, ShowsSettled, HasJob, leaves_manifests}
use Rattle.landing_core.proofs.Rows.{past_known}

pub record Leaves (s t : State) : Type 0 where
  pub more : List Entry
  pub history_is : t.history ≡ s.history ++ more
  pub table_is : t.table ≡ s.table
  pub jobs_is : t.jobs ≡ s.jobs

alike : (s t : State) → t.history ≡ s.history → t.table ≡ s.table → t.jobs ≡ s.jobs → Leaves s t
alike s t history table jobs = record { more = []; history_is = history ∙ sym (append-nil s.history); table_is = table; jobs_is = jobs }

itself : (s : State) → Leaves s s
itself s = alike s s refl refl refl

adds : (who : ℕ) (body : Body) (s : State) → Leaves s (added who body s)
adds who body s = record { more = record { who = who; body = body } ∷ []; history_is = refl; table_is = refl; jobs_is = refl }

choose : (b : Bool) (s t u : State) → Leaves s t → Leaves s u → Leaves s (cond b t u)
choose true s t u l r = l
choose false s t u l r = r

through : (s t u : State) → Leaves s t → Leaves t u → Leaves s u
through s t u l r = record {
  more = l.more ++ r.more;
  history_is = r.history_is ∙ ap (λ (h : List Entry). h ++ r.more) l.history_is ∙ append_assoc s.history l.more r.more;
  table_is = r.table_is ∙ l.table_is;
  jobs_is = r.jobs_is ∙ l.jobs_is;
}

fails : (who upto : ℕ) (opening : Bool) (s : State) → Leaves s (broken who upto opening s)
fails who upto opening s = record { more = record { who = who; body = Fault true } ∷ []; history_is = refl; table_is = refl; jobs_is = refl }

-- ---- a step

entered_leaves : (s : State) (who : ℕ) (entry : Option Body) → Leaves s (entered who entry s)
entered_leaves s who None = itself s
entered_leaves s who (Some body) = record { more = record { who = who; body = body } ∷ []; history_is = refl; table_is = refl; jobs_is = refl }

exchanged_leaves : (header : Header) (s : State) (who : ℕ) (ask : Ask) → Leaves s (exchanged header s who ask)
exchanged_leaves header s who ask =
    choose (is_as_planned s.history (s.plan who) ask) s (entered who (entry_of (judge header s.history ask)) s) (record s { plan = set_for who None s.plan })
    (entered_leaves s who (entry_of (judge header s.history ask))) (alike s _ refl refl refl)

call_leaves : (step : Step) (upto : ℕ) (stage : Stage) (s t : State) → device_call step upto stage s ≡ Some t → Leaves s t
call_leaves (SyncGroup who done) upto Written s t e = subst (Leaves s) (some_is _ t e) (choose done s (come_to upto Flushed s) (broken who upto false s) (alike s _ refl refl refl) (fails who upto false s))
call_leaves (OpenGate who done) upto Flushed s t e = subst (Leaves s) (some_is _ t e) (choose done s (come_to upto Opened s) (broken who upto true s) (alike s _ refl refl refl) (fails who upto true s))
call_leaves (Seal who done) upto Opened s t e = subst (Leaves s) (some_is _ t e) (choose done s (group_sealed upto s) (broken who upto true s) (alike s _ refl refl refl) (fails who upto true s))
call_leaves step upto stage s t e = absurd cc

seal_leaves : (step : Step) (s t : State) (o : Option Sealing) → option_and_then (λ r. device_call step r.upto r.stage s) o ≡ Some t → Leaves s t
seal_leaves step s t None e = absurd cc
seal_leaves step s t (Some r) e = call_leaves step r.upto r.stage s t e

answer_by : (s t : State) (who number : ℕ) (rest : List ℕ) (o : Option Body) → option_map (acknowledged_with s who number rest) o ≡ Some t → Leaves s t
answer_by s t who number rest None e = absurd cc
answer_by s t who number rest (Some body) e = subst (Leaves s) (some_is _ t e) (alike s (acknowledged_with s who number rest body) refl refl refl)

answer_if : (s t : State) (who number : ℕ) (rest : List ℕ) (b : Bool) → (if b then option_map (acknowledged_with s who number rest) (slice_get (bodies s.history) number) else None) ≡ Some t → Leaves s t
answer_if s t who number rest true e = answer_by s t who number rest (slice_get (bodies s.history) number) e
answer_if s t who number rest false e = absurd cc

answer_leaves : (s t : State) (who : ℕ) (numbers : List ℕ) → answer s who numbers ≡ Some t → Leaves s t
answer_leaves s t who [] e = absurd cc
answer_leaves s t who (number ∷ rest) e = answer_if s t who number rest (nat_lt number s.sealed) e

pub step_leaves : (header : Header) (s t : State) (step : Step) → leaves_manifests step ≡ true → after_step header s step ≡ Some t → Leaves s t
step_leaves header s t (PlanLanding who name draft moment) l e = subst (Leaves s) (some_is _ t e) (alike s _ refl refl refl)
step_leaves header s t (Exchange who ask) l e =
    let w = when_ok (is_ask s.history ask) (exchanged header s who ask) t e in
    subst (Leaves s) w.1 (exchanged_leaves header s who ask)
step_leaves header s t (Look who done) l e = subst (Leaves s) (some_is _ t e) (choose done s s (added who (Fault false) s) (itself s) (adds who (Fault false) s))
step_leaves header s t (LayContent who done) l e =
    let w = when_ok (not (is_down s.history)) (laid s who done) t e in
    subst (Leaves s) w.1 (choose done s s (broken who (group_end s) (may_be_kept s.sealing) s) (itself s) (fails who (group_end s) (may_be_kept s.sealing) s))
step_leaves header s t (WriteGroup who done) l e =
    let w = when_ok (is_none s.sealing && nat_lt s.sealed (length (bodies s.history))) (written s who done) t e in
    let all = length (bodies s.history) in
    subst (Leaves s) w.1 (choose done s (come_to all Written s) (broken who all false s) (alike s _ refl refl refl) (fails who all false s))
step_leaves header s t (SyncGroup who done) l e = seal_leaves (SyncGroup who done) s t s.sealing e
step_leaves header s t (OpenGate who done) l e = seal_leaves (OpenGate who done) s t s.sealing e
step_leaves header s t (Seal who done) l e = seal_leaves (Seal who done) s t s.sealing e
step_leaves header s t (Acknowledge who) l e = answer_leaves s t who (s.waiting who) e
step_leaves header s t (TakeJob x) l e = absurd (true≢false (sym l))
step_leaves header s t (Settle x) l e = absurd (true≢false (sym l))
step_leaves header s t (Crash kept) l e = absurd (true≢false (sym l))

-- ---- a list of steps

leave_by : (header : Header) (s t : State) (steps : List Step) (o : Option State) → ((next : State) → o ≡ Some next → Leaves s next) → ((next : State) → after_steps header next steps ≡ Some t → Leaves next t) → option_and_then (λ next. after_steps header next steps) o ≡ Some t → Leaves s t
leave_by header s t steps None first later e = absurd cc
leave_by header s t steps (Some next) first later e = through s next t (first next refl) (later next e)

pub steps_leave : (header : Header) (steps : List Step) (s t : State) → AllByRecursion (λ step. leaves_manifests step ≡ true) steps → after_steps header s steps ≡ Some t → Leaves s t
steps_leave header [] s t all e = subst (Leaves s) (some_is s t e) (itself s)
steps_leave header (step ∷ steps) s t all e =
    leave_by header s t steps (after_step header s step)
    (λ next at. step_leaves header s next step all.0 at)
    (λ next at. steps_leave header steps next t all.1 at) e

-- ---- where more is known

row_grows : (h g : List Entry) (m : Manifests) → IsRow (known h) m → IsRow (known (h ++ g)) m
row_grows h g m row = (known_grows h g m.id row.0, row.1 ∙ ap (manifests_in m.id) (sym (past_grows h g m.id row.0)))

taken_grows : (h g : List Entry) (table : List Manifests) (job : Job) → IsTaken (known h) table job → IsTaken (known (h ++ g)) table job
taken_grows h g table job taken =
    let same = past_grows h g job.changeset.id (past_known (known h) job.changeset.id job.changeset taken.first taken.second taken.past_is) in
    record {
      first = taken.first;
      second = taken.second;
      past_is = same ∙ taken.past_is;
      first_there = taken.first_there;
      second_there = taken.second_there;
      derives = taken.derives ∙ ap (manifests_in job.changeset.id) (sym same);
    }

-- manifests and jobs that are right
pub record AreTrue (ks : List Known) (table : List Manifests) (jobs : List Job) : Type 0 where
  pub rows : AllByRecursion (IsRow ks) table
  pub taken : AllByRecursion (IsTaken ks table) jobs

pub true_left : (s t : State) → Leaves s t → AreTrue (known s.history) s.table s.jobs → AreTrue (known t.history) t.table t.jobs
true_left s t l are =
    subst (λ jobs. AreTrue (known t.history) t.table jobs) (sym l.jobs_is)
    (subst (λ table. AreTrue (known t.history) table s.jobs) (sym l.table_is)
    (subst (λ h. AreTrue (known h) s.table s.jobs) (sym l.history_is) (record {
      rows = weaker (IsRow (known s.history)) (IsRow (known (s.history ++ l.more))) (row_grows s.history l.more) s.table are.rows;
      taken = weaker (IsTaken (known s.history) s.table) (IsTaken (known (s.history ++ l.more)) s.table) (taken_grows s.history l.more s.table) s.jobs are.taken;
    })))

pub shows_left : (header : Header) (settled : Id → Bool) (steps : List Step) (s t : State) → AllByRecursion (λ step. leaves_manifests step ≡ true) steps → after_steps header s steps ≡ Some t → ShowsSettled (known s.history) settled s → ShowsSettled (known t.history) settled t
shows_left header settled steps s t all e shows =
    let l = steps_leave header steps s t all e in
    let are = true_left s t l (record { rows = shows.rows; taken = shows.jobs }) in
    record { settled_is = λ x. ap (λ table. is_some (settled_in table x)) l.table_is ∙ shows.settled_is x; rows = are.rows; jobs = are.taken }

pub job_left : (header : Header) (x : Id) (steps : List Step) (s t : State) → AllByRecursion (λ step. leaves_manifests step ≡ true) steps → after_steps header s steps ≡ Some t → HasJob s x → HasJob t x
job_left header x steps s t all e has =
    ap (λ jobs. is_some (find (λ (job : Job). bytes_eq job.changeset.id x) jobs)) (steps_leave header steps s t all e).jobs_is ∙ has
