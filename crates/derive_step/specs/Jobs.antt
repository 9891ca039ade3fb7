-- What a job and a derivation stand for. A changeset and its ancestors are given each the child of the next.
--     IsRight ks      changesets that keep their rules, whose files can be counted, and whose deleted nodes can be spelled
--     IsJobOf c older job      the job has the changeset c, and of the definitions' manifests of its one parent the nodes of the directories above its change paths; and the files that come and go, with the deleted nodes at and above these
--     IsDoneOf c older job done      the roots are those of the definitions' manifests of c, and of the nodes of these the new ones are here and all others are the parent's
use Rattle.std.specs.Prelude.{◌≡◌, ◌⊎◌, ℕ, ◌+◌, ◌*◌, ◌≤◌, true, if◌then◌else◌, List, [], ◌∷◌, ◌++◌, length, Contains, Option, None, Some}
use Rattle.std.specs.List.{AllByRecursion}
use Rattle.std.specs.Arc.{arc_value}
use Rattle.byte_fields.specs.Bytes.{is_bytes}
use Rattle.changeset_model.specs.Path.{Path}
use Rattle.changeset_model.specs.Changeset.{is_changeset, id_of, sets_of}
use Rattle.history_model.specs.History.{Known}
use Rattle.history_model.specs.Chain.{changesets}
use Rattle.history_model.specs.Past.{Begin, past_on}
use Rattle.history_model.specs.Tree.{is_dir}
use Rattle.manifest_model.specs.Fsnode.{fsnode, fsnode_id}
use Rattle.manifest_model.specs.Unode.{unode, unode_id, is_renewed}
use Rattle.manifest_model.specs.Manifests.{manifests_on, nodes_in}
use Rattle.manifest_model.specs.Deleted.{deleted, deleted_id, is_deleted}
use Rattle.manifest_laws.specs.Changes.{AreClear, files_in, renewed_dirs}
use Rattle.manifest_laws.specs.Rules.{AreFiles}
use Rattle.deleted_step.specs.Steps.{AreComeAndGone, AreHeldAt, ways}
use Rattle.node_table.specs.declared.roots.Roots.{Roots}
use Rattle.derive_step.specs.declared.job.Job.{Job}
use Rattle.derive_step.specs.declared.done.Done.{Done}
use Rattle.derive_step.specs.Views.{Before, first_of, second_of, nodes_before, roots_before, held_in}

pub record IsRight (ks : List Known) : Type 0 where
  pub clear : AreClear (changesets ks)
  pub rules : AllByRecursion (λ c. is_changeset c ≡ true) (changesets ks)
  pub ids : AllByRecursion (λ k. is_bytes 32 k.id ≡ true) ks
  pub counted : AreFiles (files_in ks)
  pub deletions : (d : Path) → is_deleted (deleted (past_on ks) d) ≡ true

-- ---- by the definitions

abbrev pub nodes_at : List Known → Path → Before
nodes_at ks d = record { fsnode = fsnode (files_in ks) d; unode = unode ks d; unode_id = unode_id (unode ks d) }

-- of a directory that is there
abbrev pub nodes_on : List Known → Path → Option Before
nodes_on [] d = None
nodes_on (c ∷ older) d = if is_dir (files_in (c ∷ older)) d then Some (nodes_at (c ∷ older) d) else None

abbrev pub roots_on : List Known → Option Roots
roots_on [] = None
roots_on (c ∷ older) = Some (record { fsnode = fsnode_id (fsnode (files_in (c ∷ older)) []); unode = unode_id (unode (c ∷ older) []); deleted = deleted_id (deleted (past_on (c ∷ older)) []) })

abbrev pub all_nodes_on : List Known → List (List ℕ)
all_nodes_on [] = []
all_nodes_on (c ∷ older) = nodes_in (manifests_on c.id (c ∷ older))

-- ---- a job

pub record IsJobOf (c : Known) (older : List Known) (job : Job) : Type 0 where
  pub right : IsRight (c ∷ older)
  pub changeset : arc_value job.commit ≡ c.changeset
  pub id : c.id ≡ id_of c.changeset
  pub alone : second_of job.parents ≡ None
  pub roots : roots_before (first_of job.parents) ≡ roots_on older
  pub nodes : (d : Path) → is_renewed c.changeset d ≡ true → nodes_before (first_of job.parents) d ≡ nodes_on older d
  pub files : AreComeAndGone c (past_on older) Begin job.deletions.gone.items job.deletions.come.items
  pub held : AreHeldAt (held_in job.deletions.nodes) (past_on older) (job.deletions.gone.items ++ job.deletions.come.items)

-- ---- what was derived

pub record IsDoneOf (c : Known) (older : List Known) (job : Job) (done : Done) : Type 0 where
  pub number : done.number ≡ job.number
  pub first : done.first ≡ roots_on older
  pub second : done.second ≡ None
  pub roots : Some done.roots ≡ roots_on (c ∷ older)
  pub right : AllByRecursion (Contains (all_nodes_on (c ∷ older))) done.nodes.items
  pub whole : (n : List ℕ) → Contains (all_nodes_on (c ∷ older)) n → Contains done.nodes.items n ⊎ Contains (all_nodes_on older) n
  pub few : length done.nodes.items ≤ (2 * length (renewed_dirs c.changeset) + length (sets_of c.changeset)) + length (ways (job.deletions.gone.items ++ job.deletions.come.items))
