-- A job can be taken of a changeset that is ready.
use Rattle.std.proofs.Common.{◌≡◌, ℕ, Bool, true, List, [], ◌∷◌, ◌++◌, refl, ap, subst, ◌∙◌}
use Rattle.std.specs.Prelude.{None, Some, is_some, bytes_eq, option_map, if◌then◌else◌}
use Rattle.std.specs.List.{AllByRecursion}
use Rattle.byte_fields.specs.Bytes.{Id}
use Rattle.byte_fields.proofs.Lists.{all_push}
use Rattle.history_model.specs.History.{Entry, Known, known}
use Rattle.history_model.specs.Past.{Past, Begin, At, past}
use Rattle.history_model.specs.Journal.{Header}
use Rattle.manifest_model.specs.Manifests.{Manifests, Job}
use Rattle.manifest_model.proofs.Jobs.{job_of_past}
use Rattle.reply_model.specs.Legal.{IsLegal}
use Rattle.core_model.specs.Core.{State, TakeJob, settled_in, parent_in, job_on}
use Rattle.core_model.proofs.Tables.{job_right}
use Rattle.landing_core.specs.Steps.{Shows, Goes}
use Rattle.landing_core.proofs.Asked.{one_step}
use Rattle.landing_core.specs.Settled.{IsRow, IsTaken, ShowsSettled, HasJob, is_settled, IsReady}
use Rattle.landing_core.proofs.Rows.{past_id, some_parent, both_there, last_push}
use Rattle.reply_model.proofs.Parents.{same_id}

-- ---- the job of a changeset on its parents' pasts

module _ (header : Header) (h : List Entry) (legal : IsLegal header h) (table : List Manifests) (rows : AllByRecursion (IsRow (known h)) table) where
  -- which is taken of x
  pub record Takes (x : Id) : Type 0 where
    pub job : Job
    pub is : job_on table (past (known h) x) ≡ Some job
    pub id_is : job.changeset.id ≡ x
    pub taken : IsTaken (known h) table job

  pub takes : (x : Id) (here : Known) (first second : Past) → past (known h) x ≡ At here first second → is_some (parent_in table first) ≡ true → is_some (parent_in table second) ≡ true → Takes x
  takes x here first second e first_there second_there =
      let both = both_there (parent_in table first) (parent_in table second) first_there second_there in
      let job : Job = job_of_past here first second both.0 in
      let is : job_on table (past (known h) x) ≡ Some job = ap (job_on table) e ∙ ap (option_map (job_of_past here first second)) both.1 in
      let id_is : here.id ≡ x = past_id (known h) x here first second e in
      record {
        job = job;
        is = is;
        id_is = id_is;
        taken = record {
          first = first;
          second = second;
          past_is = ap (past (known h)) id_is ∙ e;
          first_there = first_there;
          second_there = second_there;
          derives = (job_right header h legal table rows x job is).1;
        };
      }

-- ---- the step

parent_settled : (table : List Manifests) (settled : Id → Bool) → ((x : Id) → is_some (settled_in table x) ≡ settled x) → (p : Past) → is_settled settled p ≡ true → is_some (parent_in table p) ≡ true
parent_settled table settled is Begin h = refl
parent_settled table settled is (At p first second) h = some_parent (settled_in table p.id) ∙ is p.id ∙ h

take_here : (header : Header) (n : ℕ) (settled : Id → Bool) (x : Id) (s : State) → IsLegal header s.history → IsReady (known s.history) settled x → Shows s.history n s → ShowsSettled (known s.history) settled s → Goes header s (TakeJob x ∷ []) (λ t. Shows s.history n t × ShowsSettled (known s.history) settled t × HasJob t x)
take_here header n settled x s legal ready shows rows =
    let first = parent_settled s.table settled rows.settled_is ready.first ready.first_settled in
    let second = parent_settled s.table settled rows.settled_is ready.second ready.second_settled in
    let takes = takes header s.history legal s.table rows.rows x ready.here ready.first ready.second ready.past_is first second in
    let after : State = record s { jobs = s.jobs ++ takes.job ∷ [] } in
    record {
      state = after;
      taken = one_step header s after (TakeJob x)
          (ap (λ b. option_map (λ job. record s { jobs = s.jobs ++ job ∷ [] }) (if b then None else job_on s.table (past (known s.history) x))) (rows.settled_is x ∙ ready.unsettled)
          ∙ ap (option_map (λ job. record s { jobs = s.jobs ++ job ∷ [] })) takes.is);
      meets = (
        record { history_is = refl; sealed_is = shows.sealed_is; left = shows.left },
        record { settled_is = rows.settled_is; rows = rows.rows; jobs = all_push (IsTaken (known s.history) s.table) s.jobs takes.job rows.jobs takes.taken },
        last_push (λ job. bytes_eq job.changeset.id x) s.jobs takes.job (ap (λ y. bytes_eq y x) takes.id_is ∙ same_id x),
      );
    }

pub take_goes : (header : Header) (h : List Entry) (n : ℕ) (settled : Id → Bool) (x : Id) (s : State) → IsLegal header h → IsReady (known h) settled x → Shows h n s → ShowsSettled (known h) settled s → Goes header s (TakeJob x ∷ []) (λ t. Shows h n t × ShowsSettled (known h) settled t × HasJob t x)
take_goes header h n settled x s legal ready shows rows =
    subst (λ h. IsLegal header h → IsReady (known h) settled x → Shows h n s → ShowsSettled (known h) settled s → Goes header s (TakeJob x ∷ []) (λ t. Shows h n t × ShowsSettled (known h) settled t × HasJob t x)) shows.history_is
    (take_here header n settled x s) legal ready shows rows
