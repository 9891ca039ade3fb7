-- What each step leaves as it is at the front: what is acknowledged, and but for a crash the whole history, with seats and faults.
use Rattle.std.proofs.Common.{◌≡◌, ℕ, Bool, true, false, cond, List, [], ◌∷◌, ◌++◌, length, refl, sym, ap, ◌∙◌}
use Rattle.std.specs.Prelude.{◌&&◌, not, is_none, nat_lt, Option, None, Some, slice_get, find, bytes_eq, option_map, if◌then◌else◌}
use Rattle.std.specs.Option.{IfSome, option_and_then}
use mathlib.Core.Bool.{true≢false}
use mathlib.Core.List.{IsPrefix}
use Rattle.std.specs.List.{AllByRecursion}
use Rattle.std.proofs.lemmas.List.{append-nil}
use Rattle.history_model.specs.History.{Body, Fault, Entry, bodies, is_down}
use Rattle.history_model.specs.Journal.{Header}
use Rattle.manifest_model.specs.Manifests.{Job, derive}
use Rattle.reply_model.specs.Reply.{is_ask, judge}
use Rattle.core_model.specs.Core.{State, Step, Sealing, Stage, Written, Flushed, Opened, PlanLanding, Exchange, Look, LayContent, WriteGroup, SyncGroup, OpenGate, Seal, Acknowledge, TakeJob, Settle, Crash, is_as_planned, entry_of, entered, exchanged, added, broken, come_to, group_end, may_be_kept, laid, written, device_call, acknowledged_with, answer, kept_of, reopened, settled_with, job_of, when, after_step, after_steps}
use Rattle.landing_core.specs.Gained.{is_crash}
use Rattle.byte_fields.proofs.Booleans.{same_some}
use Rattle.byte_fields.proofs.Lists.{prefix_trans as prefix_then, prefix_self as same_front}

-- of a step that is a crash or not
record Extends (crashes : Bool) (s t : State) : Type 0 where
  history : crashes ≡ false → IsPrefix s.history t.history
  acknowledged : IsPrefix s.acknowledged t.acknowledged

-- a state with the history and what is acknowledged as they were
unchanged : (s t : State) → t.history ≡ s.history → t.acknowledged ≡ s.acknowledged → Extends false s t
unchanged s t h a = record { history = λ _. ([], append-nil s.history ∙ sym h); acknowledged = ([], append-nil s.acknowledged ∙ sym a) }

one_entry : (s t : State) (e : Entry) → t.history ≡ s.history ++ e ∷ [] → t.acknowledged ≡ s.acknowledged → Extends false s t
one_entry s t e h a = record { history = λ _. (e ∷ [], sym h); acknowledged = ([], append-nil s.acknowledged ∙ sym a) }

extends_when : (s : State) (b : Bool) (t : State) → Extends false s t → IfSome (when b t) (Extends false s)
extends_when s true t x = x
extends_when s false t x = tt

either : (s : State) (b : Bool) (t u : State) → Extends false s t → Extends false s u → Extends false s (cond b t u)
either s true t u x y = x
either s false t u x y = y

extends_entered : (s : State) (who : ℕ) (made : Option Body) → Extends false s (entered who made s)
extends_entered s who None = unchanged s s refl refl
extends_entered s who (Some body) = one_entry s (entered who (Some body) s) (record { who = who; body = body }) refl refl

extends_broken : (s : State) (who upto : ℕ) (opening : Bool) → Extends false s (broken who upto opening s)
extends_broken s who upto opening = one_entry s (broken who upto opening s) (record { who = who; body = Fault true }) refl refl

extends_call : (step : Step) (upto : ℕ) (stage : Stage) (s : State) → IfSome (device_call step upto stage s) (Extends false s)
extends_call (SyncGroup who true) upto Written s = unchanged s _ refl refl
extends_call (SyncGroup who false) upto Written s = extends_broken s who upto false
extends_call (OpenGate who true) upto Flushed s = unchanged s _ refl refl
extends_call (OpenGate who false) upto Flushed s = extends_broken s who upto true
extends_call (Seal who true) upto Opened s = unchanged s _ refl refl
extends_call (Seal who false) upto Opened s = extends_broken s who upto true
extends_call step upto stage s = tt

extends_append : (step : Step) (s : State) (o : Option Sealing) → IfSome (option_and_then (λ r. device_call step r.upto r.stage s) o) (Extends false s)
extends_append step s None = tt
extends_append step s (Some r) = extends_call step r.upto r.stage s

extends_answer_by : (s : State) (who number : ℕ) (rest : List ℕ) (o : Option Body) → IfSome (option_map (acknowledged_with s who number rest) o) (Extends false s)
extends_answer_by s who number rest None = tt
extends_answer_by s who number rest (Some body) = record { history = λ _. same_front s.history; acknowledged = ((number, body) ∷ [], refl) }

extends_answer_if : (s : State) (who number : ℕ) (rest : List ℕ) (b : Bool) → IfSome (if b then option_map (acknowledged_with s who number rest) (slice_get (bodies s.history) number) else None) (Extends false s)
extends_answer_if s who number rest true = extends_answer_by s who number rest (slice_get (bodies s.history) number)
extends_answer_if s who number rest false = tt

extends_answer : (s : State) (who : ℕ) (numbers : List ℕ) → IfSome (answer s who numbers) (Extends false s)
extends_answer s who [] = tt
extends_answer s who (number ∷ rest) = extends_answer_if s who number rest (nat_lt number s.sealed)

extends_taken : (s : State) (o : Option Job) → IfSome (option_map (λ job. record s { jobs = s.jobs ++ job ∷ [] }) o) (Extends false s)
extends_taken s None = tt
extends_taken s (Some job) = unchanged s _ refl refl

extends_settled : (s : State) (o : Option Job) → IfSome (option_map (λ job. record s { table = settled_with s.table (derive job) }) o) (Extends false s)
extends_settled s None = tt
extends_settled s (Some job) = unchanged s _ refl refl

extends_reopened : (s : State) (o : Option ℕ) → IfSome (option_map (reopened s) o) (Extends true s)
extends_reopened s None = tt
extends_reopened s (Some kept) = record { history = λ e. absurd (true≢false e); acknowledged = same_front s.acknowledged }

extends_step : (header : Header) (s : State) (step : Step) → IfSome (after_step header s step) (Extends (is_crash step) s)
extends_step header s (PlanLanding who name draft moment) = unchanged s _ refl refl
extends_step header s (Exchange who ask) =
    extends_when s (is_ask s.history ask) (exchanged header s who ask)
    (either s (is_as_planned s.history (s.plan who) ask) (entered who (entry_of (judge header s.history ask)) s) _ (extends_entered s who (entry_of (judge header s.history ask))) (unchanged s _ refl refl))
extends_step header s (Look who done) =
    either s done s (added who (Fault false) s) (unchanged s s refl refl) (one_entry s (added who (Fault false) s) (record { who = who; body = Fault false }) refl refl)
extends_step header s (LayContent who done) =
    extends_when s (not (is_down s.history)) (laid s who done)
    (either s done s (broken who (group_end s) (may_be_kept s.sealing) s) (unchanged s s refl refl) (extends_broken s who (group_end s) (may_be_kept s.sealing)))
extends_step header s (WriteGroup who done) =
    extends_when s (is_none s.sealing && nat_lt s.sealed (length (bodies s.history))) (written s who done)
    (either s done (come_to (length (bodies s.history)) Written s) (broken who (length (bodies s.history)) false s) (unchanged s _ refl refl) (extends_broken s who (length (bodies s.history)) false))
extends_step header s (SyncGroup who done) = extends_append (SyncGroup who done) s s.sealing
extends_step header s (OpenGate who done) = extends_append (OpenGate who done) s s.sealing
extends_step header s (Seal who done) = extends_append (Seal who done) s s.sealing
extends_step header s (Acknowledge who) = extends_answer s who (s.waiting who)
extends_step header s (TakeJob x) = extends_taken s (job_of s x)
extends_step header s (Settle x) = extends_settled s (find (λ job. bytes_eq job.changeset.id x) s.jobs)
extends_step header s (Crash kept) = extends_reopened s (kept_of s kept)

-- ---- whole runs

acknowledged_by : (header : Header) (s t : State) (step : Step) (steps : List Step) → ((next : State) → after_steps header next steps ≡ Some t → IsPrefix next.acknowledged t.acknowledged) → (o : Option State) → IfSome o (Extends (is_crash step) s) → option_and_then (λ next. after_steps header next steps) o ≡ Some t → IsPrefix s.acknowledged t.acknowledged
acknowledged_by header s t step steps later None x e = absurd cc
acknowledged_by header s t step steps later (Some next) x e = prefix_then s.acknowledged next.acknowledged t.acknowledged x.acknowledged (later next e)

pub acknowledged_stay : (header : Header) (s t : State) (steps : List Step) → after_steps header s steps ≡ Some t → IsPrefix s.acknowledged t.acknowledged
acknowledged_stay header s t [] e = ([], append-nil s.acknowledged ∙ ap (λ (s : State). s.acknowledged) (same_some s t e))
acknowledged_stay header s t (step ∷ steps) e = acknowledged_by header s t step steps (λ next. acknowledged_stay header next t steps) (after_step header s step) (extends_step header s step) e

history_by : (header : Header) (s t : State) (step : Step) (steps : List Step) → is_crash step ≡ false → ((next : State) → after_steps header next steps ≡ Some t → IsPrefix next.history t.history) → (o : Option State) → IfSome o (Extends (is_crash step) s) → option_and_then (λ next. after_steps header next steps) o ≡ Some t → IsPrefix s.history t.history
history_by header s t step steps runs later None x e = absurd cc
history_by header s t step steps runs later (Some next) x e = prefix_then s.history next.history t.history (x.history runs) (later next e)

pub history_stays : (header : Header) (s t : State) (steps : List Step) → AllByRecursion (λ step. is_crash step ≡ false) steps → after_steps header s steps ≡ Some t → IsPrefix s.history t.history
history_stays header s t [] runs e = ([], append-nil s.history ∙ ap (λ (s : State). s.history) (same_some s t e))
history_stays header s t (step ∷ steps) runs e = history_by header s t step steps runs.0 (λ next. history_stays header next t steps runs.1) (after_step header s step) (extends_step header s step) e
