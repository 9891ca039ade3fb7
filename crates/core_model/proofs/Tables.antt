-- What every list of steps keeps of the table: its manifests are those of known changesets by the definitions from scratch.
use Rattle.std.proofs.Common.{◌≡◌, ℕ, Bool, true, false, cond, not, ◌||◌, List, [], ◌∷◌, ◌++◌, map, take, length, reverse, refl, sym, ap, subst, ◌∙◌}
use Rattle.std.specs.Prelude.{Option, Some, None, IfSome, find, bytes_eq, option_map, is_some, is_none, slice_get, nat_lt, ◌&&◌, if◌then◌else◌}
use Rattle.std.specs.List.{AllByRecursion}
use Rattle.std.specs.Option.{option_and_then, option_map_or}
use Rattle.std.proofs.lemmas.List.{append-nil}
use Rattle.std.proofs.lemmas.Grind.{flat_map-append}
use Rattle.std.proofs.lemmas.Slice.Eq.{bytes_eq-Decides}
use Rattle.byte_fields.specs.Bytes.{Id}
use Rattle.history_model.specs.History.{Body, Fault, Entry, unnumbered, bodies, is_down, Known, known, is_known}
use Rattle.history_model.specs.Chain.{first_of, first_parent}
use Rattle.history_model.specs.Past.{Past, Begin, second_of, past}
use Rattle.history_model.proofs.Chains.{first_of_all}
use Rattle.history_model.proofs.Clashes.{same_some}
use Rattle.manifest_model.specs.Manifests.{Manifests, nodes_in, manifests_in, manifests_of, Job, derive}
use Rattle.history_model.specs.Journal.{Header}
use Rattle.reply_model.specs.Legal.{IsLegal}
use Rattle.reply_model.specs.Reply.{Ask, is_ask, judge}
use Rattle.core_model.specs.Core.{State, Step, Sealing, Stage, Written, Flushed, Opened, PlanLanding, Exchange, Look, LayContent, WriteGroup, SyncGroup, OpenGate, Seal, Acknowledge, TakeJob, Settle, Crash, set_for, is_as_planned, entry_of, entered, exchanged, added, broken, come_to, group_sealed, group_end, may_be_kept, laid, written, device_call, acknowledged_with, answer, are_apart, nodes_among, settled_in, parent_in, both_of, job_on, settled_with, kept_of, opened, reopened, after_step, after_steps}
use Rattle.reply_model.proofs.Parents.{HasParents-known, known_reverse}
use Rattle.manifest_model.proofs.Jobs.{of_past, job_of_past, derives}
use Rattle.reply_model.proofs.Lines.{known_once, PastGoesOn, past_goes_on, second_of_all, no_past, known_grows, past_grows}
use Rattle.core_model.proofs.Cores.{Kept, step_kept, started_kept, some_is, when_ok}
use Rattle.byte_fields.proofs.Lists.{all_push, weaker}

-- ---- what holds of a table and of jobs

abbrev pub IsRight : List Known → Manifests → Type 0
IsRight ks m = (is_known ks m.id ≡ true) × (m ≡ manifests_of ks m.id)

abbrev pub IsRightJob : List Known → Job → Type 0
IsRightJob ks job = (is_known ks job.changeset.id ≡ true) × (derive job ≡ manifests_of ks job.changeset.id)

record KeptTable (h : List Entry) (jobs : List Job) (table : List Manifests) : Type 0 where
  jobs_right : AllByRecursion (IsRightJob (known h)) jobs
  table_right : AllByRecursion (IsRight (known h)) table
  apart : are_apart (nodes_among table) ≡ true

abbrev StateTable : State → Type 0
StateTable s = KeptTable s.history s.jobs s.table

right_grows : (h g : List Entry) (m : Manifests) → IsRight (known h) m → IsRight (known (h ++ g)) m
right_grows h g m r = (known_grows h g m.id r.0, r.1 ∙ ap (manifests_in m.id) (sym (past_grows h g m.id r.0)))

right_job_grows : (h g : List Entry) (job : Job) → IsRightJob (known h) job → IsRightJob (known (h ++ g)) job
right_job_grows h g job r = (known_grows h g job.changeset.id r.0, r.1 ∙ ap (manifests_in job.changeset.id) (sym (past_grows h g job.changeset.id r.0)))

grows : (h g : List Entry) (jobs : List Job) (table : List Manifests) → KeptTable h jobs table → KeptTable (h ++ g) jobs table
grows h g jobs table k = record {
  jobs_right = weaker (IsRightJob (known h)) (IsRightJob (known (h ++ g))) (right_job_grows h g) jobs k.jobs_right;
  table_right = weaker (IsRight (known h)) (IsRight (known (h ++ g))) (right_grows h g) table k.table_right;
  apart = k.apart;
}

-- ---- a job that is taken

settled_by : (ks : List Known) (x : Id) (n : Manifests) (table : List Manifests) (m : Manifests) → IsRight ks n → (find (λ m. bytes_eq m.id x) table ≡ Some m → IsRight ks m × (m.id ≡ x)) → (b : Bool) → bytes_eq n.id x ≡ b → cond b (Some n) (find (λ m. bytes_eq m.id x) table) ≡ Some m → IsRight ks m × (m.id ≡ x)
settled_by ks x n table m r later true e h = subst (λ m. IsRight ks m × (m.id ≡ x)) (same_some n m h) (r, (bytes_eq-Decides n.id x).0 e)
settled_by ks x n table m r later false e h = later h

settled_right : (ks : List Known) (x : Id) (table : List Manifests) (m : Manifests) → AllByRecursion (IsRight ks) table → settled_in table x ≡ Some m → IsRight ks m × (m.id ≡ x)
settled_right ks x [] m all e = absurd cc
settled_right ks x (n ∷ table) m all e = settled_by ks x n table m all.0 (settled_right ks x table m all.1) (bytes_eq n.id x) refl e

both_by : (a b : Option (List Manifests)) (ms : List Manifests) → both_of a b ≡ Some ms → (x y : List Manifests) × (a ≡ Some x) × (b ≡ Some y) × (x ++ y ≡ ms)
both_by None b ms e = absurd cc
both_by (Some x) None ms e = absurd cc
both_by (Some x) (Some y) ms e = (x, y, refl, refl, same_some (x ++ y) ms e)

one_by : (o : Option Manifests) (ms : List Manifests) → option_map (λ m. m ∷ []) o ≡ Some ms → (m : Manifests) × (o ≡ Some m) × (m ∷ [] ≡ ms)
one_by None ms e = absurd cc
one_by (Some m) ms e = (m, refl, same_some (m ∷ []) ms e)

made_by : (c : Known) (first second : Past) (o : Option (List Manifests)) (job : Job) → option_map (job_of_past c first second) o ≡ Some job → (ms : List Manifests) × (o ≡ Some ms) × (job_of_past c first second ms ≡ job)
made_by c first second None job e = absurd cc
made_by c first second (Some ms) job e = (ms, refl, same_some (job_of_past c first second ms) job e)

module _ (header : Header) (h : List Entry) (legal : IsLegal header h) (table : List Manifests) (right : AllByRecursion (IsRight (known h)) table) where
  goes_on : (x : Id) → is_known (reverse (known h)) x ≡ true → PastGoesOn (reverse (known h)) x
  goes_on x there = past_goes_on (reverse (known h)) (known_once h) (HasParents-known header h legal) x there

  abbrev past_of : Option Id → Past
  past_of o = option_map_or (past (known h)) o Begin

  parent_right : (o : Option Id) → IfSome o (λ p. is_known (reverse (known h)) p ≡ true) → (ms : List Manifests) → parent_in table (past_of o) ≡ Some ms → of_past (past_of o) ≡ ms
  parent_right None there ms e = same_some [] ms e
  parent_right (Some p) there ms e =
      let g = goes_on p there in
      let one = one_by (settled_in table g.first.id) ms (ap (parent_in table) (sym g.past_is) ∙ e) in
      let m = one.0 in
      let s = settled_right (known h) g.first.id table m right one.1 in
      let scratch : m ≡ manifests_in g.first.id (past (known h) p) = s.0.1 ∙ (λ i. manifests_in (s.1 i) (past (known h) ((s.1 ∙ g.id_is) i))) in
      ap of_past g.past_is ∙ (λ i. (ap (manifests_in g.first.id) (sym g.past_is) ∙ sym scratch) i ∷ []) ∙ one.2

  -- a changeset without a first parent has no second one
  only_first : (ps : List Id) → IfSome (first_of ps) (λ p. is_known (reverse (known h)) p ≡ true) → past_of (first_of ps) ≡ Begin → past_of (second_of ps) ≡ Begin
  only_first [] there e = refl
  only_first (p ∷ ps) there e = let g = goes_on p there in absurd (let is = sym g.past_is ∙ e in cc)

  job_by : (x : Id) (job : Job) → PastGoesOn (reverse (known h)) x → is_known (known h) x ≡ true → job_on table (past (known h) x) ≡ Some job → IsRightJob (known h) job
  job_by x job g there e =
      let c = g.first in
      let first = past_of (first_parent c.changeset) in
      let second = past_of (second_of c.changeset.parents) in
      let made = made_by c first second (both_of (parent_in table first) (parent_in table second)) job (ap (job_on table) (sym g.past_is) ∙ e) in
      let both = both_by (parent_in table first) (parent_in table second) made.0 made.1 in
      let known_at = λ (p : Id). is_known (reverse (known h)) p ≡ true in
      let parents : of_past first ++ of_past second ≡ made.0 =
      (λ i. parent_right (first_parent c.changeset) (first_of_all known_at c.changeset.parents g.parents) both.0 both.2 i ++ parent_right (second_of c.changeset.parents) (second_of_all known_at c.changeset.parents g.parents) both.1 both.3 i) ∙ both.4
      in
      let same : job.changeset.id ≡ x = ap (λ (job : Job). job.changeset.id) (sym made.2) ∙ g.id_is in
      let derived : derive job ≡ manifests_in c.id (past (known h) x) =
      ap derive (sym made.2) ∙ ap (λ ms. derive (job_of_past c first second ms)) (sym parents) ∙ derives c first second (only_first c.changeset.parents (first_of_all known_at c.changeset.parents g.parents)) ∙ ap (manifests_in c.id) (sym g.past_is)
      in
      (subst (λ y. is_known (known h) y ≡ true) (sym same) there, derived ∙ (λ i. manifests_in ((g.id_is ∙ sym same) i) (past (known h) (sym same i))))

  job_known : (x : Id) (job : Job) (b : Bool) → is_known (known h) x ≡ b → job_on table (past (known h) x) ≡ Some job → IsRightJob (known h) job
  job_known x job true there e = job_by x job (goes_on x (known_reverse (known h) x ∙ there)) there e
  job_known x job false there e =
      let none : ◌≡◌ {A = Option Job} None (Some job) = ap (job_on table) (sym (no_past (reverse (known h)) x (known_reverse (known h) x ∙ there))) ∙ e in
      absurd cc

  pub job_right : (x : Id) (job : Job) → job_on table (past (known h) x) ≡ Some job → IsRightJob (known h) job
  job_right x job e = job_known x job (is_known (known h) x) refl e

-- ---- each step

choose : (b : Bool) (s t : State) → StateTable s → StateTable t → StateTable (cond b s t)
choose true s t k l = k
choose false s t k l = l

adds : (who : ℕ) (body : Body) (s : State) → StateTable s → StateTable (added who body s)
adds who body s k = grows s.history (record { who = who; body = body } ∷ []) s.jobs s.table k

-- a state with the same history, jobs and table
keep : (s : State) → StateTable s → StateTable s
keep s k = k

entered_table : (who : ℕ) (made : Option Body) (s : State) → StateTable s → StateTable (entered who made s)
entered_table who None s k = k
entered_table who (Some body) s k = grows s.history (record { who = who; body = body } ∷ []) s.jobs s.table k

exchanged_table : (header : Header) (s : State) (who : ℕ) (ask : Ask) → StateTable s → StateTable (exchanged header s who ask)
exchanged_table header s who ask k =
    choose (is_as_planned s.history (s.plan who) ask) (entered who (entry_of (judge header s.history ask)) s) (record s { plan = set_for who None s.plan })
    (entered_table who (entry_of (judge header s.history ask)) s k) (keep s k)

broken_table : (s : State) (who upto : ℕ) (opening : Bool) → StateTable s → StateTable (broken who upto opening s)
broken_table s who upto opening k = adds who (Fault true) s k

written_table : (s : State) (who : ℕ) (done : Bool) → StateTable s → StateTable (written s who done)
written_table s who done k =
    let all = length (bodies s.history) in
    choose done (come_to all Written s) (broken who all false s) (keep s k) (broken_table s who all false k)

laid_table : (s : State) (who : ℕ) (done : Bool) → StateTable s → StateTable (laid s who done)
laid_table s who done k = choose done s (broken who (group_end s) (may_be_kept s.sealing) s) (keep s k) (broken_table s who (group_end s) (may_be_kept s.sealing) k)

call_table : (step : Step) (upto : ℕ) (stage : Stage) (s t : State) → StateTable s → device_call step upto stage s ≡ Some t → StateTable t
call_table (SyncGroup who done) upto Written s t k e = subst StateTable (some_is _ t e) (choose done (come_to upto Flushed s) (broken who upto false s) (keep s k) (broken_table s who upto false k))
call_table (OpenGate who done) upto Flushed s t k e = subst StateTable (some_is _ t e) (choose done (come_to upto Opened s) (broken who upto true s) (keep s k) (broken_table s who upto true k))
call_table (Seal who done) upto Opened s t k e = subst StateTable (some_is _ t e) (choose done (group_sealed upto s) (broken who upto true s) (keep s k) (broken_table s who upto true k))
call_table step upto stage s t k e = absurd cc

append_table : (step : Step) (s t : State) (o : Option Sealing) → StateTable s → option_and_then (λ r. device_call step r.upto r.stage s) o ≡ Some t → StateTable t
append_table step s t None k e = absurd cc
append_table step s t (Some r) k e = call_table step r.upto r.stage s t k e

answer_by : (s t : State) (who number : ℕ) (rest : List ℕ) (o : Option Body) → StateTable s → option_map (acknowledged_with s who number rest) o ≡ Some t → StateTable t
answer_by s t who number rest None k e = absurd cc
answer_by s t who number rest (Some body) k e = subst StateTable (some_is _ t e) (keep s k)

answer_if : (s t : State) (who number : ℕ) (rest : List ℕ) (b : Bool) → StateTable s → (if b then option_map (acknowledged_with s who number rest) (slice_get (bodies s.history) number) else None) ≡ Some t → StateTable t
answer_if s t who number rest true k e = answer_by s t who number rest (slice_get (bodies s.history) number) k e
answer_if s t who number rest false k e = absurd cc

answer_table : (s t : State) (who : ℕ) (numbers : List ℕ) → StateTable s → answer s who numbers ≡ Some t → StateTable t
answer_table s t who [] k e = absurd cc
answer_table s t who (number ∷ rest) k e = answer_if s t who number rest (nat_lt number s.sealed) k e

new_table : (h : List Entry) → KeptTable h [] []
new_table h = record { jobs_right = tt; table_right = tt; apart = refl }

crash_table : (s t : State) (o : Option ℕ) → option_map (reopened s) o ≡ Some t → StateTable t
crash_table s t None e = absurd cc
crash_table s t (Some n) e = subst StateTable (some_is _ t e) (new_table (map unnumbered (take n (bodies s.history))))

taken_by : (header : Header) (s t : State) (x : Id) → IsLegal header s.history → StateTable s → (o : Option Job) → job_on s.table (past (known s.history) x) ≡ o → option_map (λ job. record s { jobs = s.jobs ++ job ∷ [] }) o ≡ Some t → StateTable t
taken_by header s t x legal k None at e = absurd cc
taken_by header s t x legal k (Some job) at e = subst StateTable (some_is _ t e) (record {
  jobs_right = all_push (IsRightJob (known s.history)) s.jobs job k.jobs_right (job_right header s.history legal s.table k.table_right x job at);
  table_right = k.table_right;
  apart = k.apart;
})

taken_table : (header : Header) (s t : State) (x : Id) → IsLegal header s.history → StateTable s → (b : Bool) → option_map (λ job. record s { jobs = s.jobs ++ job ∷ [] }) (if b then None else job_on s.table (past (known s.history) x)) ≡ Some t → StateTable t
taken_table header s t x legal k true e = absurd cc
taken_table header s t x legal k false e = taken_by header s t x legal k (job_on s.table (past (known s.history) x)) refl e

nodes_push : (table : List Manifests) (m : Manifests) → nodes_among (table ++ m ∷ []) ≡ nodes_among table ++ nodes_in m
nodes_push table m = flat_map-append nodes_in table (m ∷ []) ∙ ap (λ ns. nodes_among table ++ ns) (append-nil (nodes_in m))

put_by : (h : List Entry) (jobs : List Job) (table : List Manifests) (m : Manifests) → IsRight (known h) m → KeptTable h jobs table → (a b : Bool) → are_apart (nodes_among table ++ nodes_in m) ≡ b → KeptTable h jobs (cond (a || not b) table (table ++ m ∷ []))
put_by h jobs table m r k true b e = k
put_by h jobs table m r k false false e = k
put_by h jobs table m r k false true e = record {
  jobs_right = k.jobs_right;
  table_right = all_push (IsRight (known h)) table m k.table_right r;
  apart = ap are_apart (nodes_push table m) ∙ e;
}

right_of : (h : List Entry) (job : Job) → IsRightJob (known h) job → IsRight (known h) (derive job)
right_of h job r = r

found_by : (P : Job → Type 0) (x : Id) (j : Job) (jobs : List Job) (job : Job) → P j → (find (λ job. bytes_eq job.changeset.id x) jobs ≡ Some job → P job) → (b : Bool) → cond b (Some j) (find (λ job. bytes_eq job.changeset.id x) jobs) ≡ Some job → P job
found_by P x j jobs job p later true e = subst P (same_some j job e) p
found_by P x j jobs job p later false e = later e

found_right : (P : Job → Type 0) (x : Id) (jobs : List Job) (job : Job) → AllByRecursion P jobs → find (λ job. bytes_eq job.changeset.id x) jobs ≡ Some job → P job
found_right P x [] job all e = absurd cc
found_right P x (j ∷ jobs) job all e = found_by P x j jobs job all.0 (found_right P x jobs job all.1) (bytes_eq j.changeset.id x) e

settled_table : (s t : State) (x : Id) → StateTable s → (o : Option Job) → find (λ job. bytes_eq job.changeset.id x) s.jobs ≡ o → option_map (λ job. record s { table = settled_with s.table (derive job) }) o ≡ Some t → StateTable t
settled_table s t x k None at e = absurd cc
settled_table s t x k (Some job) at e =
    let r = found_right (IsRightJob (known s.history)) x s.jobs job k.jobs_right at in
    subst StateTable (some_is _ t e) (put_by s.history s.jobs s.table (derive job) (right_of s.history job r) k (is_some (settled_in s.table job.changeset.id)) (are_apart (nodes_among s.table ++ nodes_in (derive job))) refl)

step_table : (header : Header) (s t : State) (step : Step) → after_step header s step ≡ Some t → IsLegal header s.history → StateTable s → StateTable t
step_table header s t (PlanLanding who name draft moment) e legal k = subst StateTable (some_is _ t e) (keep s k)
step_table header s t (Exchange who ask) e legal k =
    let w = when_ok (is_ask s.history ask) (exchanged header s who ask) t e in
    subst StateTable w.1 (exchanged_table header s who ask k)
step_table header s t (Look who done) e legal k = subst StateTable (some_is _ t e) (choose done s (added who (Fault false) s) k (adds who (Fault false) s k))
step_table header s t (LayContent who done) e legal k =
    let w = when_ok (not (is_down s.history)) (laid s who done) t e in
    subst StateTable w.1 (laid_table s who done k)
step_table header s t (WriteGroup who done) e legal k =
    let w = when_ok (is_none s.sealing && nat_lt s.sealed (length (bodies s.history))) (written s who done) t e in
    subst StateTable w.1 (written_table s who done k)
step_table header s t (SyncGroup who done) e legal k = append_table (SyncGroup who done) s t s.sealing k e
step_table header s t (OpenGate who done) e legal k = append_table (OpenGate who done) s t s.sealing k e
step_table header s t (Seal who done) e legal k = append_table (Seal who done) s t s.sealing k e
step_table header s t (Acknowledge who) e legal k = answer_table s t who (s.waiting who) k e
step_table header s t (TakeJob x) e legal k = taken_table header s t x legal k (is_some (settled_in s.table x)) e
step_table header s t (Settle x) e legal k = settled_table s t x k (find (λ job. bytes_eq job.changeset.id x) s.jobs) refl e
step_table header s t (Crash kept) e legal k = crash_table s t (kept_of s kept) e

-- ---- a list of steps

record Both (header : Header) (s : State) : Type 0 where
  kept : Kept header s
  table : StateTable s

steps_by : (header : Header) (t : State) (steps : List Step) (o : Option State) → ((s : State) → o ≡ Some s → Both header s) → ((s : State) → after_steps header s steps ≡ Some t → Both header s → Both header t) → option_and_then (λ next. after_steps header next steps) o ≡ Some t → Both header t
steps_by header t steps None first later e = absurd cc
steps_by header t steps (Some s) first later e = later s e (first s refl)

steps_both : (header : Header) (steps : List Step) (s t : State) → after_steps header s steps ≡ Some t → Both header s → Both header t
steps_both header [] s t e k = subst (Both header) (some_is s t e) k
steps_both header (step ∷ steps) s t e k =
    steps_by header t steps (after_step header s step)
    (λ next at. record { kept = step_kept header s next step at k.kept; table = step_table header s next step at k.kept.legal k.table })
    (λ next at both. steps_both header steps next t at both) e

table_after : (header : Header) (h : List Entry) (steps : List Step) (s : State) → IsLegal header h → after_steps header (opened h) steps ≡ Some s → StateTable s
table_after header h steps s legal e = (steps_both header steps (opened h) s e (record { kept = started_kept header h legal; table = new_table h })).table

-- the manifests in the table are those of known changesets by the definitions from scratch
pub table_is_right : (header : Header) (h : List Entry) (steps : List Step) (s : State) → IsLegal header h → after_steps header (opened h) steps ≡ Some s → AllByRecursion (λ m. (is_known (known s.history) m.id ≡ true) × (m ≡ manifests_of (known s.history) m.id)) s.table
table_is_right header h steps s legal e = (table_after header h steps s legal e).table_right

-- and no two different nodes have one digest
pub table_is_apart : (header : Header) (h : List Entry) (steps : List Step) (s : State) → IsLegal header h → after_steps header (opened h) steps ≡ Some s → are_apart (nodes_among s.table) ≡ true
table_is_apart header h steps s legal e = (table_after header h steps s legal e).apart
