-- Jobs for known changesets, and what was derived of them.
--     IsJobIn past job, IsDoneIn past done      a job of the changeset of a past;  what was derived of such a job
--     IsReached ks m n      the changeset of the number m is the one of n, or is reached from it through parents
--     is_ready ks t n      a changeset that isn't settled, whose parents are
--     IsNext ks t n next      a job of a changeset that is reached from the one of n and is ready, or none where all that are reached are settled
--     AreDeletionsOf past deletions      of a changeset and its first parent: the files that come and go, and of the parent's deleted nodes those at and above these
--     settled_by ks t done      the table with what was derived of a changeset that is ready, and else as it is
use Rattle.std.specs.Prelude.{◌≡◌, ◌<◌, ℕ, Bool, true, not, ◌&&◌, if◌then◌else◌, List, ◌++◌, length, Option, None, Some}
use Rattle.std.specs.Option.{option_map_or}
use Rattle.history_model.specs.History.{Known, is_known}
use Rattle.history_model.specs.Past.{Past, Begin, At, ancestors}
use Rattle.node_table.specs.Table.{Table, is_settled, settled_with}
use Rattle.changeset_store.specs.Store.{known_at, parent_at, second_parent_at}
use Rattle.changeset_store.specs.Pasts.{past_at}
use Rattle.deleted_step.specs.Steps.{AreComeAndGone, AreHeldAt}
use Rattle.derive_step.specs.declared.job.Deletions.{Deletions}
use Rattle.derive_step.specs.declared.job.Job.{Job}
use Rattle.derive_step.specs.declared.done.Done.{Done}
use Rattle.derive_step.specs.Views.{held_in}
use Rattle.derive_step.specs.Pasts.{IsJobAt, IsDoneAt}

abbrev pub IsJobIn : Past → Job → Type 0
IsJobIn Begin job = ⊥
IsJobIn (At c first second) job = IsJobAt c first second job

abbrev pub IsDoneIn : Past → Done → Type 0
IsDoneIn Begin done = ⊥
IsDoneIn (At c first second) done = (job : Job) × IsDoneAt c first second job done

pub record AreDeletionsAt (c : Known) (first second : Past) (deletions : Deletions) : Type 0 where
  pub files : AreComeAndGone c first second deletions.gone.items deletions.come.items
  pub held : AreHeldAt (held_in deletions.nodes) first (deletions.gone.items ++ deletions.come.items)

abbrev pub AreDeletionsOf : Past → Deletions → Type 0
AreDeletionsOf Begin deletions = ⊥
AreDeletionsOf (At c first second) deletions = AreDeletionsAt c first second deletions

-- an ancestor by both parents, or itself
pub record IsReached (ks : List Known) (m n : ℕ) : Type 0 where
  pub known : m < length ks
  pub reached : is_known (ancestors ks (known_at ks n).id) (known_at ks m).id ≡ true

abbrev pub is_ready : List Known → Table → ℕ → Bool
is_ready ks t n = not (is_settled t n) && (option_map_or (is_settled t) (parent_at ks n) true && option_map_or (is_settled t) (second_parent_at ks n) true)

pub record IsNextJob (ks : List Known) (t : Table) (n : ℕ) (job : Job) : Type 0 where
  pub reached : IsReached ks job.number n
  pub ready : is_ready ks t job.number ≡ true
  pub is_job : IsJobIn (past_at ks job.number) job

abbrev pub IsNext : List Known → Table → ℕ → Option Job → Type 0
IsNext ks t n None = (m : ℕ) → IsReached ks m n → is_settled t m ≡ true
IsNext ks t n (Some job) = IsNextJob ks t n job

abbrev pub settled_by : List Known → Table → Done → Table
settled_by ks t done = if is_ready ks t done.number then settled_with t done.number done.roots done.nodes.items else t
