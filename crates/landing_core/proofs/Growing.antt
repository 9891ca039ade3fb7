-- What each step seals, and how long what is sealed stays within what is stored.
use Rattle.std.proofs.Common.{◌≡◌, ℕ, ◌+◌, ◌-◌, ◌≤◌, Bool, true, false, cond, List, [], ◌∷◌, ◌++◌, map, length, take, refl, sym, ap, subst, ◌∙◌, arith, length-append, take-add}
use Rattle.std.specs.Prelude.{◌&&◌, not, is_none, nat_lt, Option, None, Some, slice_get, find, bytes_eq, option_map, if◌then◌else◌}
use Rattle.std.specs.Option.{IfSome, option_and_then, option_map_or}
use Rattle.std.proofs.lemmas.List.{append-nil, take-append-le}
use Rattle.history_model.specs.History.{Body, Fault, Entry, unnumbered, bodies, is_down}
use Rattle.history_model.specs.Journal.{Header}
use Rattle.manifest_model.specs.Manifests.{Job, derive}
use Rattle.reply_model.specs.Reply.{is_ask, Ask, judge}
use Rattle.core_model.specs.Core.{set_for, State, Step, Sealing, Stage, Written, Flushed, Opened, PlanLanding, Exchange, Look, LayContent, WriteGroup, SyncGroup, OpenGate, Seal, Acknowledge, TakeJob, Settle, Crash, plan_of, is_as_planned, entry_of, added, entered, exchanged, broken, come_to, group_sealed, group_end, group_of, laid, written, device_call, acknowledged_with, answer, may_be_kept, kept_of, reopened, settled_with, job_of, when, after_step}
use Rattle.landing_core.specs.Gained.{sealed_log, gain_of}
use Rattle.reply_model.proofs.Histories.{bodies-append}
use Rattle.core_model.proofs.Cores.{bodies_left}
use Rattle.landing_core.proofs.Lists.{take_whole}

-- what is sealed ends where the group ends or before, and the group where the stored entries end or before
abbrev pub Most : State → Type 0
Most s = (s.sealed ≤ group_end s) × (group_end s ≤ length (bodies s.history))

-- the state that comes of a step, if one does, has sealed these too
abbrev pub Seals : State → List Body → State → Type 0
Seals s more t = (sealed_log t ≡ sealed_log s ++ more) × Most t

seals_none : (s t : State) → t.history ≡ s.history → t.sealed ≡ s.sealed → Most t → Seals s [] t
seals_none s t h n most = ((λ i. take (n i) (bodies (h i))) ∙ sym (append-nil (sealed_log s)), most)

-- one more entry
more_stored : (h : List Entry) (e : Entry) (n : ℕ) → n ≤ length (bodies h) → n ≤ length (bodies (h ++ e ∷ []))
more_stored h e n most =
    let len = ap length (bodies-append h (e ∷ [])) in
    let sum = length-append (bodies h) (bodies (e ∷ [])) in
    omega arith

stored_most : (s : State) → Most s → s.sealed ≤ length (bodies s.history)
stored_most s most = let least = most.0 in let end = most.1 in omega arith

seals_added : (s t : State) (e : Entry) → Most s → t.history ≡ s.history ++ e ∷ [] → t.sealed ≡ s.sealed → Most t → Seals s [] t
seals_added s t e most h n after =
    let all : bodies t.history ≡ bodies s.history ++ bodies (e ∷ []) = ap bodies h ∙ bodies-append s.history (e ∷ []) in
    ((λ i. take (n i) (all i)) ∙ take-append-le s.sealed (bodies s.history) (bodies (e ∷ [])) (stored_most s most) ∙ sym (append-nil (sealed_log s)), after)

either : (s : State) (more : List Body) (b : Bool) (t u : State) → Seals s more t → Seals s more u → Seals s more (cond b t u)
either s more true t u x y = x
either s more false t u x y = y

seals_when : (s : State) (more : List Body) (b : Bool) (t : State) → Seals s more t → IfSome (when b t) (Seals s more)
seals_when s more true t x = x
seals_when s more false t x = tt

seals_entered : (s : State) (who : ℕ) (made : Option Body) → Most s → Seals s [] (entered who made s)
seals_entered s who None most = seals_none s s refl refl most
seals_entered s who (Some body) most = seals_added s (entered who (Some body) s) (record { who = who; body = body }) most refl refl (most.0, more_stored s.history (record { who = who; body = body }) (group_end s) most.1)

seals_exchanged : (header : Header) (s : State) (who : ℕ) (ask : Ask) → Most s → Seals s [] (exchanged header s who ask)
seals_exchanged header s who ask most =
    either s [] (is_as_planned s.history (s.plan who) ask) (entered who (entry_of (judge header s.history ask)) s) (record s { plan = set_for who None s.plan })
    (seals_entered s who (entry_of (judge header s.history ask)) most) (seals_none s (record s { plan = set_for who None s.plan }) refl refl most)

seals_fault : (s : State) (who : ℕ) → Most s → Seals s [] (added who (Fault false) s)
seals_fault s who most = seals_added s (added who (Fault false) s) (record { who = who; body = Fault false }) most refl refl (most.0, more_stored s.history (record { who = who; body = Fault false }) (group_end s) most.1)

seals_broken : (s : State) (who upto : ℕ) (opening : Bool) → Most s → s.sealed ≤ upto → upto ≤ length (bodies s.history) → Seals s [] (broken who upto opening s)
seals_broken s who upto opening most least end = seals_added s (broken who upto opening s) (record { who = who; body = Fault true }) most refl refl (least, more_stored s.history (record { who = who; body = Fault true }) upto end)

seals_come : (s : State) (upto : ℕ) (stage : Stage) → s.sealed ≤ upto → upto ≤ length (bodies s.history) → Seals s [] (come_to upto stage s)
seals_come s upto stage least end = seals_none s (come_to upto stage s) refl refl (least, end)

-- up to the group's end stands what is sealed, and then the group
pub to_end : (s : State) → Most s → take (group_end s) (bodies s.history) ≡ sealed_log s ++ group_of s
to_end s most =
    let least = most.0 in
    let whole : s.sealed + (group_end s - s.sealed) ≡ group_end s = omega arith in
    (λ i. take (sym whole i) (bodies s.history)) ∙ take-add s.sealed (group_end s - s.sealed) (bodies s.history)

seals_group : (s : State) (upto : ℕ) → group_end s ≡ upto → Most s → Seals s (group_of s) (group_sealed upto s)
seals_group s upto e most = (
  (λ i. take (sym e i) (bodies s.history)) ∙ to_end s most,
  (omega arith, subst (λ n. n ≤ length (bodies s.history)) e most.1),
)

seals_written : (s : State) (who : ℕ) (done : Bool) → Most s → Seals s [] (written s who done)
seals_written s who done most =
    let all = length (bodies s.history) in
    let least : s.sealed ≤ all = stored_most s most in
    let end : all ≤ all = omega arith in
    either s [] done (come_to all Written s) (broken who all false s) (seals_come s all Written least end) (seals_broken s who all false most least end)

seals_laid : (s : State) (who : ℕ) (done : Bool) → Most s → Seals s [] (laid s who done)
seals_laid s who done most =
    either s [] done s (broken who (group_end s) (may_be_kept s.sealing) s) (seals_none s s refl refl most) (seals_broken s who (group_end s) (may_be_kept s.sealing) most most.0 most.1)

seals_call : (step : Step) (upto : ℕ) (stage : Stage) (s : State) → group_end s ≡ upto → Most s → s.sealed ≤ upto → upto ≤ length (bodies s.history) → IfSome (device_call step upto stage s) (Seals s (gain_of step s))
seals_call (SyncGroup who true) upto Written s e most least end = seals_come s upto Flushed least end
seals_call (SyncGroup who false) upto Written s e most least end = seals_broken s who upto false most least end
seals_call (OpenGate who true) upto Flushed s e most least end = seals_come s upto Opened least end
seals_call (OpenGate who false) upto Flushed s e most least end = seals_broken s who upto true most least end
seals_call (Seal who true) upto Opened s e most least end = seals_group s upto e most
seals_call (Seal who false) upto Opened s e most least end = seals_broken s who upto true most least end
seals_call step upto stage s e most least end = tt

-- where the group ends, as the sealing tells it
end_is : (s : State) (r : Sealing) → s.sealing ≡ Some r → group_end s ≡ r.upto
end_is s r e = ap (λ o. option_map_or (λ r. r.upto) o s.sealed) e

seals_calls : (step : Step) (s : State) (o : Option Sealing) → s.sealing ≡ o → Most s → IfSome (option_and_then (λ r. device_call step r.upto r.stage s) o) (Seals s (gain_of step s))
seals_calls step s None e most = tt
seals_calls step s (Some r) e most = seals_call step r.upto r.stage s (end_is s r e) most (subst (λ n. s.sealed ≤ n) (end_is s r e) most.0) (subst (λ n. n ≤ length (bodies s.history)) (end_is s r e) most.1)

seals_answer_by : (s : State) (who number : ℕ) (rest : List ℕ) (o : Option Body) → Most s → IfSome (option_map (acknowledged_with s who number rest) o) (Seals s [])
seals_answer_by s who number rest None most = tt
seals_answer_by s who number rest (Some body) most = seals_none s (acknowledged_with s who number rest body) refl refl most

seals_answer_if : (s : State) (who number : ℕ) (rest : List ℕ) (b : Bool) → Most s → IfSome (if b then option_map (acknowledged_with s who number rest) (slice_get (bodies s.history) number) else None) (Seals s [])
seals_answer_if s who number rest true most = seals_answer_by s who number rest (slice_get (bodies s.history) number) most
seals_answer_if s who number rest false most = tt

seals_answer : (s : State) (who : ℕ) (numbers : List ℕ) → Most s → IfSome (answer s who numbers) (Seals s [])
seals_answer s who [] most = tt
seals_answer s who (number ∷ rest) most = seals_answer_if s who number rest (nat_lt number s.sealed) most

seals_taken : (s : State) (o : Option Job) → Most s → IfSome (option_map (λ job. record s { jobs = s.jobs ++ job ∷ [] }) o) (Seals s [])
seals_taken s None most = tt
seals_taken s (Some job) most = seals_none s (record s { jobs = s.jobs ++ job ∷ [] }) refl refl most

seals_settled : (s : State) (o : Option Job) → Most s → IfSome (option_map (λ job. record s { table = settled_with s.table (derive job) }) o) (Seals s [])
seals_settled s None most = tt
seals_settled s (Some job) most = seals_none s (record s { table = settled_with s.table (derive job) }) refl refl most

-- ---- a crash

pub reopened_log : (s : State) (n : ℕ) → sealed_log (reopened s n) ≡ take n (bodies s.history)
reopened_log s n = take_whole (bodies (map unnumbered (take n (bodies s.history)))) ∙ bodies_left s.history n

seals_reopened : (s : State) (n : ℕ) (more : List Body) → take n (bodies s.history) ≡ sealed_log s ++ more → Seals s more (reopened s n)
seals_reopened s n more is = (reopened_log s n ∙ is, (omega arith, omega arith))

seals_kept : (s : State) (b : Bool) → Most s → IfSome (option_map (reopened s) (if b then Some (group_end s) else None)) (Seals s (group_of s))
seals_kept s true most = seals_reopened s (group_end s) (group_of s) (to_end s most)
seals_kept s false most = tt

seals_crash : (s : State) (kept : Bool) → Most s → IfSome (option_map (reopened s) (kept_of s kept)) (Seals s (gain_of (Crash kept) s))
seals_crash s false most = seals_reopened s s.sealed [] (sym (append-nil (sealed_log s)))
seals_crash s true most = seals_kept s (may_be_kept s.sealing) most

pub seals_step : (header : Header) (s : State) (step : Step) → Most s → IfSome (after_step header s step) (Seals s (gain_of step s))
seals_step header s (PlanLanding who name draft moment) most = seals_none s (record s { plan = set_for who (plan_of s.history name draft moment) s.plan }) refl refl most
seals_step header s (Exchange who ask) most = seals_when s [] (is_ask s.history ask) (exchanged header s who ask) (seals_exchanged header s who ask most)
seals_step header s (Look who done) most = either s [] done s (added who (Fault false) s) (seals_none s s refl refl most) (seals_fault s who most)
seals_step header s (LayContent who done) most = seals_when s [] (not (is_down s.history)) (laid s who done) (seals_laid s who done most)
seals_step header s (WriteGroup who done) most = seals_when s [] (is_none s.sealing && nat_lt s.sealed (length (bodies s.history))) (written s who done) (seals_written s who done most)
seals_step header s (SyncGroup who done) most = seals_calls (SyncGroup who done) s s.sealing refl most
seals_step header s (OpenGate who done) most = seals_calls (OpenGate who done) s s.sealing refl most
seals_step header s (Seal who done) most = seals_calls (Seal who done) s s.sealing refl most
seals_step header s (Acknowledge who) most = seals_answer s who (s.waiting who) most
seals_step header s (TakeJob x) most = seals_taken s (job_of s x) most
seals_step header s (Settle x) most = seals_settled s (find (λ job. bytes_eq job.changeset.id x) s.jobs) most
seals_step header s (Crash kept) most = seals_crash s kept most
