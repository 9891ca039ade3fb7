-- What holds of each state that steps lead to: no more is sealed than is stored, and each number that a seat waits for is of a stored entry that it made.
use Rattle.std.proofs.Common.{◌≡◌, ℕ, ◌<◌, Bool, true, false, cond, List, [], ◌∷◌, ◌++◌, map, length, take, refl, sym, ap, subst, ◌∙◌, inl, inr, arith}
use Rattle.std.specs.Prelude.{◌⊎◌, ◌==◌, ◌&&◌, not, Contains, is_none, nat_lt, IsTrue, Option, None, Some, slice_get, filter, find, bytes_eq, option_map, if◌then◌else◌, Result, Ok, Err}
use Rattle.std.specs.Option.{IfSome, option_and_then, option_map_or}
use mathlib.Core.List.{IsPrefix}
use Rattle.std.specs.List.{AllByRecursion}
use Rattle.std.proofs.lemmas.List.{append-nil, append_assoc, length-map, take-append-drop}
use Rattle.std.proofs.lemmas.List.Elements.{filter-append}
use Rattle.std.proofs.lemmas.Option.{slice_get-map}
use Rattle.std.proofs.lemmas.Bool.{eqb-true}
use Rattle.history_model.specs.History.{Body, Fault, Entry, is_stored, is_down, unnumbered, bodies, stored}
use Rattle.history_model.specs.Journal.{Header}
use Rattle.manifest_model.specs.Manifests.{Job, derive}
use Rattle.reply_model.specs.Reply.{is_ask, Ask, Refusal, Judged, judge}
use Rattle.core_model.specs.Core.{set_for, State, Step, Sealing, Stage, Written, Flushed, Opened, PlanLanding, Exchange, Look, LayContent, WriteGroup, SyncGroup, OpenGate, Seal, Acknowledge, TakeJob, Settle, Crash, is_as_planned, entry_of, entered, exchanged, added, broken, come_to, group_end, group_of, laid, written, device_call, acknowledged_with, answer, may_be_kept, kept_of, opened, reopened, settled_with, job_of, when, after_step, after_steps}
use Rattle.landing_core.specs.Gained.{sealed_log, StandsAt, IsSealedAt, numbered, MadeAt, gain_of, gains_of}
use Rattle.reply_model.proofs.Granted.{MakesStored, judge_stored}
use Rattle.core_model.proofs.Cores.{get_front, get_take, seat_case, bodies_left}
use Rattle.landing_core.proofs.Lists.{filter-map, take_whole}
use Rattle.byte_fields.proofs.Booleans.{same_some}
use Rattle.byte_fields.proofs.Lists.{get_next, weaker, all_push, all_filter, each_of}
use Rattle.landing_core.proofs.Growing.{Most, Seals, seals_step, to_end}

-- the seat made the stored entry with this number
abbrev IsOwn : List Entry → ℕ → ℕ → Type 0
IsOwn h who number = (body : Body) × MadeAt h number who body

-- each number that a seat waits for is that of an entry that the seat made
abbrev AreOwn : List Entry → (ℕ → List ℕ) → Type 0
AreOwn h waiting = (who : ℕ) → AllByRecursion (IsOwn h who) (waiting who)

-- ---- numbers

bodies-numbered : (h : List Entry) → map (λ e. e.body) (numbered h) ≡ bodies h
bodies-numbered h = sym (filter-map (λ e. e.body) is_stored h)

numbered-push : (h : List Entry) (e : Entry) → numbered (h ++ e ∷ []) ≡ numbered h ++ filter (λ e. is_stored e.body) (e ∷ [])
numbered-push h e = filter-append (λ e. is_stored e.body) h (e ∷ [])

one_entry : (who : ℕ) (body : Body) → is_stored body ≡ true → filter (λ (e : Entry). is_stored e.body) (record { who = who; body = body } ∷ []) ≡ record { who = who; body = body } ∷ []
one_entry who body s = λ i. cond (s i) (record { who = who; body = body } ∷ []) []

pub one_body : (body : Body) → is_stored body ≡ true → filter is_stored (body ∷ []) ≡ body ∷ []
one_body body s = λ i. cond (s i) (body ∷ []) []

own_one : (h : List Entry) (e : Entry) (who number : ℕ) → IsOwn h who number → IsOwn (h ++ e ∷ []) who number
own_one h e who number old = (old.0, ap (λ es. slice_get es number) (numbered-push h e) ∙ get_front (numbered h) (filter (λ e. is_stored e.body) (e ∷ [])) number (record { who = who; body = old.0 }) old.1)

own_push : (h : List Entry) (e : Entry) (u : ℕ → List ℕ) → AreOwn h u → AreOwn (h ++ e ∷ []) u
own_push h e u k who = weaker (IsOwn h who) (IsOwn (h ++ e ∷ []) who) (own_one h e who) (u who) (k who)

next_number : (h : List Entry) → length (numbered h) ≡ length (bodies h)
next_number h = sym (length-map (numbered h) (λ e. e.body)) ∙ ap length (bodies-numbered h)

made_next : (h : List Entry) (who : ℕ) (body : Body) → is_stored body ≡ true → MadeAt (h ++ record { who = who; body = body } ∷ []) (length (bodies h)) who body
made_next h who body s =
    ap (λ es. slice_get es (length (bodies h))) (numbered-push h (record { who = who; body = body }) ∙ ap (λ es. numbered h ++ es) (one_entry who body s))
    ∙ ap (λ n. slice_get (numbered h ++ record { who = who; body = body } ∷ []) n) (sym (next_number h))
    ∙ get_next (numbered h) (record { who = who; body = body })

own_sealed : (h : List Entry) (who : ℕ) (body : Body) (u : ℕ → List ℕ) → is_stored body ≡ true → AreOwn h u → AreOwn (h ++ record { who = who; body = body } ∷ []) (set_for who (u who ++ length (bodies h) ∷ []) u)
own_sealed h who body u s k seat =
    let now : List Entry = h ++ record { who = who; body = body } ∷ [] in
    let older = own_push h (record { who = who; body = body }) u k in
    seat_case (AllByRecursion (IsOwn now seat)) who seat (u who ++ length (bodies h) ∷ []) u
    (λ same. subst (λ w. AllByRecursion (IsOwn now w) (u who ++ length (bodies h) ∷ [])) (sym same) (all_push (IsOwn now who) (u who) (length (bodies h)) (older who) (body, made_next h who body s)))
    (λ _. older seat)

own_answered : (h : List Entry) (who number : ℕ) (rest : List ℕ) (u : ℕ → List ℕ) → u who ≡ number ∷ rest → AreOwn h u → AreOwn h (set_for who rest u)
own_answered h who number rest u at k seat =
    seat_case (AllByRecursion (IsOwn h seat)) who seat rest u
    (λ same. subst (λ w. AllByRecursion (IsOwn h w) rest) (sym same) (subst (AllByRecursion (IsOwn h who)) at (k who)).1)
    (λ _. k seat)

-- ---- each step

abbrev pub Own : State → Type 0
Own s = AreOwn s.history s.waiting

choose : (b : Bool) (s t : State) → Own s → Own t → Own (cond b s t)
choose true s t k l = k
choose false s t k l = l

own_when : (b : Bool) (t : State) → Own t → IfSome (when b t) Own
own_when true t k = k
own_when false t k = tt

own_entered : (s : State) (who : ℕ) (made : Option Body) → ((body : Body) → made ≡ Some body → is_stored body ≡ true) → Own s → Own (entered who made s)
own_entered s who None each k = k
own_entered s who (Some body) each k = own_sealed s.history who body s.waiting (each body refl) k

own_made : (s : State) (who : ℕ) (r : Result Judged Refusal) → MakesStored r → Own s → Own (entered who (entry_of r) s)
own_made s who (Ok judged) each k = own_entered s who judged.made each k
own_made s who (Err refusal) each k = k

own_exchanged : (header : Header) (s : State) (who : ℕ) (ask : Ask) → Own s → Own (exchanged header s who ask)
own_exchanged header s who ask k =
    choose (is_as_planned s.history (s.plan who) ask) (entered who (entry_of (judge header s.history ask)) s) (record s { plan = set_for who None s.plan })
    (own_made s who (judge header s.history ask) (judge_stored header s.history ask) k) k

own_broken : (s : State) (who upto : ℕ) (opening : Bool) → Own s → Own (broken who upto opening s)
own_broken s who upto opening k seat = all_filter (IsOwn (s.history ++ record { who = who; body = Fault true } ∷ []) seat) (λ number. nat_lt number s.sealed) (s.waiting seat) (own_push s.history (record { who = who; body = Fault true }) s.waiting k seat)

own_written : (s : State) (who : ℕ) (done : Bool) → Own s → Own (written s who done)
own_written s who done k = choose done (come_to (length (bodies s.history)) Written s) (broken who (length (bodies s.history)) false s) k (own_broken s who (length (bodies s.history)) false k)

own_laid : (s : State) (who : ℕ) (done : Bool) → Own s → Own (laid s who done)
own_laid s who done k = choose done s (broken who (group_end s) (may_be_kept s.sealing) s) k (own_broken s who (group_end s) (may_be_kept s.sealing) k)

own_call : (step : Step) (upto : ℕ) (stage : Stage) (s : State) → Own s → IfSome (device_call step upto stage s) Own
own_call (SyncGroup who true) upto Written s k = k
own_call (SyncGroup who false) upto Written s k = own_broken s who upto false k
own_call (OpenGate who true) upto Flushed s k = k
own_call (OpenGate who false) upto Flushed s k = own_broken s who upto true k
own_call (Seal who true) upto Opened s k = k
own_call (Seal who false) upto Opened s k = own_broken s who upto true k
own_call step upto stage s k = tt

own_calls : (step : Step) (s : State) (o : Option Sealing) → Own s → IfSome (option_and_then (λ r. device_call step r.upto r.stage s) o) Own
own_calls step s None k = tt
own_calls step s (Some r) k = own_call step r.upto r.stage s k

own_answer_by : (s : State) (who number : ℕ) (rest : List ℕ) (o : Option Body) → s.waiting who ≡ number ∷ rest → Own s → IfSome (option_map (acknowledged_with s who number rest) o) Own
own_answer_by s who number rest None at k = tt
own_answer_by s who number rest (Some body) at k = own_answered s.history who number rest s.waiting at k

own_answer_if : (s : State) (who number : ℕ) (rest : List ℕ) (b : Bool) → s.waiting who ≡ number ∷ rest → Own s → IfSome (if b then option_map (acknowledged_with s who number rest) (slice_get (bodies s.history) number) else None) Own
own_answer_if s who number rest true at k = own_answer_by s who number rest (slice_get (bodies s.history) number) at k
own_answer_if s who number rest false at k = tt

own_answer : (s : State) (who : ℕ) (numbers : List ℕ) → s.waiting who ≡ numbers → Own s → IfSome (answer s who numbers) Own
own_answer s who [] at k = tt
own_answer s who (number ∷ rest) at k = own_answer_if s who number rest (nat_lt number s.sealed) at k

own_taken : (s : State) (o : Option Job) → Own s → IfSome (option_map (λ job. record s { jobs = s.jobs ++ job ∷ [] }) o) Own
own_taken s None k = tt
own_taken s (Some job) k = k

own_settled : (s : State) (o : Option Job) → Own s → IfSome (option_map (λ job. record s { table = settled_with s.table (derive job) }) o) Own
own_settled s None k = tt
own_settled s (Some job) k = k

own_reopened : (s : State) (o : Option ℕ) → IfSome (option_map (reopened s) o) Own
own_reopened s None = tt
own_reopened s (Some n) = λ who. tt

own_step : (header : Header) (s : State) (step : Step) → Own s → IfSome (after_step header s step) Own
own_step header s (PlanLanding who name draft moment) k = k
own_step header s (Exchange who ask) k = own_when (is_ask s.history ask) (exchanged header s who ask) (own_exchanged header s who ask k)
own_step header s (Look who done) k = choose done s (added who (Fault false) s) k (own_push s.history (record { who = who; body = Fault false }) s.waiting k)
own_step header s (LayContent who done) k = own_when (not (is_down s.history)) (laid s who done) (own_laid s who done k)
own_step header s (WriteGroup who done) k = own_when (is_none s.sealing && nat_lt s.sealed (length (bodies s.history))) (written s who done) (own_written s who done k)
own_step header s (SyncGroup who done) k = own_calls (SyncGroup who done) s s.sealing k
own_step header s (OpenGate who done) k = own_calls (OpenGate who done) s s.sealing k
own_step header s (Seal who done) k = own_calls (Seal who done) s s.sealing k
own_step header s (Acknowledge who) k = own_answer s who (s.waiting who) refl k
own_step header s (TakeJob x) k = own_taken s (job_of s x) k
own_step header s (Settle x) k = own_settled s (find (λ job. bytes_eq job.changeset.id x) s.jobs) k
own_step header s (Crash kept) k = own_reopened s (kept_of s kept)

pub record Held (s : State) : Type 0 where
  pub most : Most s
  pub own : Own s

held_next : (s next : State) (more : List Body) → Seals s more next → Own next → Held next
held_next s next more seals own = record { most = seals.1; own = own }

-- after some steps, with what they sealed
record Came (s t : State) (gains : List Body) : Type 0 where
  held : Held t
  log : sealed_log t ≡ sealed_log s ++ gains

came_by : (header : Header) (s t : State) (step : Step) (steps : List Step) → ((next : State) → Held next → after_steps header next steps ≡ Some t → Came next t (gains_of header next steps)) → (o : Option State) → after_step header s step ≡ o → IfSome o (Seals s (gain_of step s)) → IfSome o Own → option_and_then (λ next. after_steps header next steps) o ≡ Some t
    → Came s t (option_map_or (λ next. gain_of step s ++ gains_of header next steps) o [])
came_by header s t step steps later None was seals own e = absurd cc
came_by header s t step steps later (Some next) was seals own e =
    let c = later next (held_next s next (gain_of step s) seals own) e in
    record { held = c.held; log = c.log ∙ ap (λ (log : List Body). log ++ gains_of header next steps) seals.0 ∙ append_assoc (sealed_log s) (gain_of step s) (gains_of header next steps) }

came : (header : Header) (steps : List Step) (s t : State) → Held s → after_steps header s steps ≡ Some t → Came s t (gains_of header s steps)
came header [] s t k e = subst (λ t. Came s t []) (same_some s t e) (record { held = k; log = sym (append-nil (sealed_log s)) })
came header (step ∷ steps) s t k e = came_by header s t step steps (λ next. came header steps next t) (after_step header s step) refl (seals_step header s step k.most) (own_step header s step k.own) e

held_opened : (h : List Entry) → Held (opened h)
held_opened h = record { most = (omega arith, omega arith); own = λ who. tt }

pub held : (header : Header) (h : List Entry) (steps : List Step) (s : State) → after_steps header (opened h) steps ≡ Some s → Held s
held header h steps s e = (came header steps (opened h) s (held_opened h) e).held

-- ---- what is sealed

pub log_is : (header : Header) (h : List Entry) (steps : List Step) (s : State) → after_steps header (opened h) steps ≡ Some s → sealed_log s ≡ bodies h ++ gains_of header (opened h) steps
log_is header h steps s e = (came header steps (opened h) s (held_opened h) e).log ∙ ap (λ (log : List Body). log ++ gains_of header (opened h) steps) (take_whole (bodies h))

pub step_seals : (header : Header) (h : List Entry) (steps : List Step) (s t : State) (step : Step) → after_steps header (opened h) steps ≡ Some s → after_step header s step ≡ Some t → sealed_log t ≡ sealed_log s ++ gain_of step s
step_seals header h steps s t step e f = (subst (λ o. IfSome o (Seals s (gain_of step s))) f (seals_step header s step (held header h steps s e).most)).0

pub stay : (header : Header) (h : List Entry) (steps later : List Step) (s t : State) → after_steps header (opened h) steps ≡ Some s → after_steps header s later ≡ Some t → IsPrefix (sealed_log s) (sealed_log t)
stay header h steps later s t e f = (gains_of header s later, sym (came header later s t (held header h steps s e) f).log)

sealed_stands : (s : State) (number : ℕ) (body : Body) → IsSealedAt s number body → StandsAt s.history number body
sealed_stands s number body is = subst (λ bs. slice_get bs number ≡ Some body) (take-append-drop s.sealed (bodies s.history)) (get_front (sealed_log s) _ number body is)

pub keep_numbers : (header : Header) (h : List Entry) (steps later : List Step) (s t : State) (number : ℕ) (body : Body) → IsSealedAt s number body → after_steps header (opened h) steps ≡ Some s → after_steps header s later ≡ Some t → IsSealedAt t number body × StandsAt t.history number body
keep_numbers header h steps later s t number body is e f =
    let p = stay header h steps later s t e f in
    let there : IsSealedAt t number body = subst (λ bs. slice_get bs number ≡ Some body) p.1 (get_front (sealed_log s) p.0 number body is) in
    (there, sealed_stands t number body there)

pub first_stands : (header : Header) (h : List Entry) (steps : List Step) (s : State) (number : ℕ) (body : Body) → after_steps header (opened h) steps ≡ Some s → StandsAt h number body → StandsAt s.history number body
first_stands header h steps s number body e stands =
    (keep_numbers header h [] steps (opened h) s number body (ap (λ bs. slice_get bs number) (take_whole (bodies h)) ∙ stands) refl e).1

-- ---- crashes

-- what is sealed, or this and the group
abbrev CrashLeaves : State → State → Type 0
CrashLeaves s t = (bodies t.history ≡ sealed_log s) ⊎ (IsTrue (may_be_kept s.sealing) × (bodies t.history ≡ sealed_log s ++ group_of s))

leaves_kept : (s t : State) (b : Bool) → may_be_kept s.sealing ≡ b → Most s → option_map (reopened s) (if b then Some (group_end s) else None) ≡ Some t → CrashLeaves s t
leaves_kept s t true may most e = inr (may, ap (λ (u : State). bodies u.history) (sym (same_some (reopened s (group_end s)) t e)) ∙ bodies_left s.history (group_end s) ∙ to_end s most)
leaves_kept s t false may most e = absurd cc

pub crash_leaves : (header : Header) (h : List Entry) (steps : List Step) (s t : State) (kept : Bool) → after_steps header (opened h) steps ≡ Some s → after_step header s (Crash kept) ≡ Some t → CrashLeaves s t
crash_leaves header h steps s t false reached e = inl (ap (λ (u : State). bodies u.history) (sym (same_some (reopened s s.sealed) t e)) ∙ bodies_left s.history s.sealed)
crash_leaves header h steps s t true reached e = leaves_kept s t (may_be_kept s.sealing) refl (held header h steps s reached).most e

abbrev Reopened : State → State → Type 0
Reopened s t = (t.history ≡ stored t.history) × (sealed_log t ≡ bodies t.history) × (t.acknowledged ≡ s.acknowledged)

reopened_is : (s : State) (o : Option ℕ) → IfSome (option_map (reopened s) o) (Reopened s)
reopened_is s None = tt
reopened_is s (Some n) = (ap (map unnumbered) (sym (bodies_left s.history n)), take_whole (bodies (map unnumbered (take n (bodies s.history)))), refl)

pub crash_reopens : (header : Header) (s t : State) (kept : Bool) → after_step header s (Crash kept) ≡ Some t → Reopened s t
crash_reopens header s t kept e = subst (λ o. IfSome o (Reopened s)) e (reopened_is s (kept_of s kept))

-- ---- what a seat waits for

-- a stored entry says what stands at its number
made_stands : (h : List Entry) (number who : ℕ) (body : Body) → MadeAt h number who body → StandsAt h number body
made_stands h number who body made =
    ap (λ bs. slice_get bs number) (sym (bodies-numbered h))
    ∙ slice_get-map (λ e. e.body) (numbered h) number
    ∙ ap (option_map (λ e. e.body)) made

pub waiting_made : (header : Header) (h : List Entry) (steps : List Step) (s : State) (who number : ℕ) → after_steps header (opened h) steps ≡ Some s → Contains (s.waiting who) number → (body : Body) × MadeAt s.history number who body
waiting_made header h steps s who number e waits = each_of (IsOwn s.history who) (s.waiting who) number ((held header h steps s e).own who) waits

pub waiting_stands : (header : Header) (h : List Entry) (steps later : List Step) (s t : State) (who number : ℕ) → after_steps header (opened h) steps ≡ Some s → Contains (s.waiting who) number → number < s.sealed → after_steps header s later ≡ Some t → (body : Body) × MadeAt s.history number who body × StandsAt t.history number body
waiting_stands header h steps later s t who number e waits less f =
    let own = waiting_made header h steps s who number e waits in
    (own.0, own.1, (keep_numbers header h steps later s t number own.0 (get_take (bodies s.history) number s.sealed own.0 less (made_stands s.history number who own.0 own.1)) e f).1)

-- an acknowledged entry is a sealed one
pub acknowledged_sealed : (s : State) (acks : List (ℕ × Body)) → AllByRecursion (λ (a : ℕ × Body). StandsAt s.history a.0 a.1) acks → AllByRecursion (λ (a : ℕ × Body). a.0 < s.sealed) acks → AllByRecursion (λ (a : ℕ × Body). IsSealedAt s a.0 a.1) acks
acknowledged_sealed s [] all first = tt
acknowledged_sealed s (a ∷ acks) all first = (get_take (bodies s.history) a.0 s.sealed a.1 first.0 all.0, acknowledged_sealed s acks all.1 first.1)
