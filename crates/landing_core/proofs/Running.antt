-- What every list of steps keeps: the manifests and the jobs are the definitions'.
use Rattle.std.proofs.Common.{◌≡◌, ℕ, Bool, true, false, cond, not, ◌||◌, List, [], ◌∷◌, ◌++◌, refl, sym, ap, subst, ◌∙◌}
use Rattle.std.specs.Prelude.{Option, None, Some, is_some, find, bytes_eq, option_map, if◌then◌else◌}
use Rattle.std.specs.List.{AllByRecursion}
use Rattle.std.specs.Option.{option_and_then}
use Rattle.std.proofs.lemmas.Option.{same_Some}
use Rattle.byte_fields.specs.Bytes.{Id}
use Rattle.byte_fields.proofs.Lists.{weaker, all_push}
use Rattle.history_model.specs.History.{Entry, Known, known}
use Rattle.history_model.specs.Past.{Past, Begin, At, past}
use Rattle.history_model.specs.Journal.{Header}
use Rattle.manifest_model.specs.Manifests.{Manifests, nodes_in, Job, derive}
use Rattle.manifest_model.proofs.Jobs.{job_of_past}
use Rattle.reply_model.specs.Legal.{IsLegal}
use Rattle.core_model.specs.Core.{State, Step, PlanLanding, Exchange, Look, LayContent, WriteGroup, SyncGroup, OpenGate, Seal, Acknowledge, TakeJob, Settle, Crash, are_apart, nodes_among, settled_in, parent_in, both_of, job_on, settled_with, kept_of, opened, reopened, after_step, after_steps}
use Rattle.core_model.proofs.Cores.{Kept, step_kept, started_kept, some_is}
use Rattle.landing_core.specs.Settled.{IsRow, IsTaken, ShowsSettled}
use Rattle.landing_core.proofs.Rows.{past_known, taken_push, each_there}
use Rattle.landing_core.proofs.Taking.{takes}
use Rattle.landing_core.proofs.Settling.{found}
use Rattle.landing_core.proofs.Leaving.{AreTrue, step_leaves, true_left}

abbrev IsTrueState : State → Type 0
IsTrueState s = AreTrue (known s.history) s.table s.jobs

-- ---- a job is taken

parents_there : (c : Known) (first second : Past) (job : Job) (o : Option (List Manifests)) → option_map (job_of_past c first second) o ≡ Some job → is_some o ≡ true
parents_there c first second job None e = absurd cc
parents_there c first second job (Some ms) e = refl

module _ (header : Header) (h : List Entry) (legal : IsLegal header h) (table : List Manifests) (rows : AllByRecursion (IsRow (known h)) table) where
  taken_on : (x : Id) (job : Job) (p : Past) → past (known h) x ≡ p → job_on table p ≡ Some job → IsTaken (known h) table job
  taken_on x job Begin at e = absurd cc
  taken_on x job (At c first second) at e =
      let each = each_there (parent_in table first) (parent_in table second) (parents_there c first second job (both_of (parent_in table first) (parent_in table second)) e) in
      let t = takes header h legal table rows x c first second at each.0 each.1 in
      subst (IsTaken (known h) table) (same_Some t.job job (sym t.is ∙ ap (job_on table) at ∙ e)) t.taken

take_by : (header : Header) (s t : State) (x : Id) → IsLegal header s.history → IsTrueState s → (o : Option Job) → job_on s.table (past (known s.history) x) ≡ o → option_map (λ job. record s { jobs = s.jobs ++ job ∷ [] }) o ≡ Some t → IsTrueState t
take_by header s t x legal are None at e = absurd cc
take_by header s t x legal are (Some job) at e = subst IsTrueState (some_is _ t e) (record {
  rows = are.rows;
  taken = all_push (IsTaken (known s.history) s.table) s.jobs job are.taken (taken_on header s.history legal s.table are.rows x job (past (known s.history) x) refl at);
})

take_true : (header : Header) (s t : State) (x : Id) → IsLegal header s.history → IsTrueState s → (b : Bool) → option_map (λ job. record s { jobs = s.jobs ++ job ∷ [] }) (if b then None else job_on s.table (past (known s.history) x)) ≡ Some t → IsTrueState t
take_true header s t x legal are true e = absurd cc
take_true header s t x legal are false e = take_by header s t x legal are (job_on s.table (past (known s.history) x)) refl e

-- ---- a job is settled

put_by : (ks : List Known) (table : List Manifests) (jobs : List Job) (m : Manifests) → IsRow ks m → AreTrue ks table jobs → (b : Bool) → AreTrue ks (cond b table (table ++ m ∷ [])) jobs
put_by ks table jobs m row are true = are
put_by ks table jobs m row are false = record {
  rows = all_push (IsRow ks) table m are.rows row;
  taken = weaker (IsTaken ks table) (IsTaken ks (table ++ m ∷ [])) (taken_push ks table m) jobs are.taken;
}

row_of : (ks : List Known) (table : List Manifests) (job : Job) → IsTaken ks table job → IsRow ks (derive job)
row_of ks table job taken = (past_known ks job.changeset.id job.changeset taken.first taken.second taken.past_is, taken.derives)

settle_true : (s t : State) (x : Id) → IsTrueState s → (o : Option Job) → find (λ job. bytes_eq job.changeset.id x) s.jobs ≡ o → option_map (λ job. record s { table = settled_with s.table (derive job) }) o ≡ Some t → IsTrueState t
settle_true s t x are None at e = absurd cc
settle_true s t x are (Some job) at e =
    let there = found (IsTaken (known s.history) s.table) s.jobs x are.taken (ap is_some at) in
    let taken = subst (IsTaken (known s.history) s.table) (same_Some there.job job (sym there.is ∙ at)) there.right in
    subst IsTrueState (some_is _ t e)
    (put_by (known s.history) s.table s.jobs (derive job) (row_of (known s.history) s.table job taken) are (is_some (settled_in s.table (derive job).id) || not (are_apart (nodes_among s.table ++ nodes_in (derive job)))))

-- ---- a crash

crash_true : (s t : State) (o : Option ℕ) → option_map (reopened s) o ≡ Some t → IsTrueState t
crash_true s t None e = absurd cc
crash_true s t (Some kept) e = subst IsTrueState (some_is _ t e) (record { rows = tt; taken = tt })

-- ---- each step, and each list of steps

step_true : (header : Header) (s t : State) (step : Step) → after_step header s step ≡ Some t → IsLegal header s.history → IsTrueState s → IsTrueState t
step_true header s t (PlanLanding who name draft moment) e legal are = true_left s t (step_leaves header s t (PlanLanding who name draft moment) refl e) are
step_true header s t (Exchange who ask) e legal are = true_left s t (step_leaves header s t (Exchange who ask) refl e) are
step_true header s t (Look who done) e legal are = true_left s t (step_leaves header s t (Look who done) refl e) are
step_true header s t (LayContent who done) e legal are = true_left s t (step_leaves header s t (LayContent who done) refl e) are
step_true header s t (WriteGroup who done) e legal are = true_left s t (step_leaves header s t (WriteGroup who done) refl e) are
step_true header s t (SyncGroup who done) e legal are = true_left s t (step_leaves header s t (SyncGroup who done) refl e) are
step_true header s t (OpenGate who done) e legal are = true_left s t (step_leaves header s t (OpenGate who done) refl e) are
step_true header s t (Seal who done) e legal are = true_left s t (step_leaves header s t (Seal who done) refl e) are
step_true header s t (Acknowledge who) e legal are = true_left s t (step_leaves header s t (Acknowledge who) refl e) are
step_true header s t (TakeJob x) e legal are = take_true header s t x legal are (is_some (settled_in s.table x)) e
step_true header s t (Settle x) e legal are = settle_true s t x are (find (λ job. bytes_eq job.changeset.id x) s.jobs) refl e
step_true header s t (Crash kept) e legal are = crash_true s t (kept_of s kept) e

record Both (header : Header) (s : State) : Type 0 where
  kept : Kept header s
  are : IsTrueState s

steps_by : (header : Header) (t : State) (steps : List Step) (o : Option State) → ((s : State) → o ≡ Some s → Both header s) → ((s : State) → after_steps header s steps ≡ Some t → Both header s → Both header t) → option_and_then (λ next. after_steps header next steps) o ≡ Some t → Both header t
steps_by header t steps None first later e = absurd cc
steps_by header t steps (Some s) first later e = later s e (first s refl)

steps_both : (header : Header) (steps : List Step) (s t : State) → after_steps header s steps ≡ Some t → Both header s → Both header t
steps_both header [] s t e k = subst (Both header) (some_is s t e) k
steps_both header (step ∷ steps) s t e k =
    steps_by header t steps (after_step header s step)
    (λ next at. record { kept = step_kept header s next step at k.kept; are = step_true header s next step at k.kept.legal k.are })
    (λ next at both. steps_both header steps next t at both) e

pub shows_itself : (header : Header) (h : List Entry) (steps : List Step) (s : State) → IsLegal header h → after_steps header (opened h) steps ≡ Some s → ShowsSettled (known s.history) (λ x. is_some (settled_in s.table x)) s
shows_itself header h steps s legal e =
    let are = (steps_both header steps (opened h) s e (record { kept = started_kept header h legal; are = record { rows = tt; taken = tt } })).are in
    record { settled_is = λ x. refl; rows = are.rows; jobs = are.taken }
