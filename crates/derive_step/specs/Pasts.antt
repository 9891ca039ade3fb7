-- What a job and a derivation stand for, of a changeset with the pasts of its two parents. A parent that isn't there is Begin, which has no directories, no roots and no nodes.
--     IsSound past      each changeset of it was accepted on its parents, different nodes of these have different ids, and the files can be counted
--     is_touched c first second d      a changeset renews a directory, or its parents have different unodes of it
--     nodes_of past d, roots_of past, all_nodes_of past      of a directory that is there, its nodes;  the ids of the roots;  all nodes
--     IsJobAt c first second job      the job has the changeset c, of each parent the nodes of the directories that are touched, and the files that come and go, with the first parent's deleted nodes at and above these
--     IsDoneAt c first second job done      the roots are those of the definitions' manifests of c, and of the nodes of these the new ones are here and all others are a parent's
use Rattle.std.specs.Prelude.{◌≡◌, ◌⊎◌, ℕ, ◌+◌, ◌*◌, ◌≤◌, Bool, true, ◌||◌, if◌then◌else◌, List, [], ◌++◌, length, Contains, Option, None, Some}
use Rattle.std.specs.List.{AllByRecursion}
use Rattle.std.specs.Arc.{arc_value}
use Rattle.changeset_model.specs.Path.{Path}
use Rattle.changeset_model.specs.Changeset.{id_of, sets_of}
use Rattle.history_model.specs.History.{Known}
use Rattle.history_model.specs.Past.{Past, Begin, At}
use Rattle.history_model.specs.Tree.{files_in}
use Rattle.manifest_model.specs.Fsnode.{fsnode, fsnode_id}
use Rattle.manifest_model.specs.Unode.{unode_id, is_renewed}
use Rattle.manifest_model.specs.Merged.{unode_at}
use Rattle.manifest_model.specs.Manifests.{manifests_in, nodes_in}
use Rattle.manifest_model.specs.Deleted.{deleted, deleted_id}
use Rattle.manifest_laws.specs.Changes.{renewed_dirs}
use Rattle.manifest_laws.specs.Rules.{AreFiles}
use Rattle.merge_laws.specs.Resolved.{AreResolved, AreAllApart, has_dir}
use Rattle.merge_laws.specs.Joined.{dirs_differ}
use Rattle.deleted_step.specs.Steps.{AreComeAndGone, AreHeldAt, ways}
use Rattle.node_table.specs.declared.roots.Roots.{Roots}
use Rattle.derive_step.specs.declared.job.Job.{Job}
use Rattle.derive_step.specs.declared.done.Done.{Done}
use Rattle.derive_step.specs.Views.{Before, first_of, second_of, nodes_before, roots_before, held_in, are_held_apart}

pub record IsSound (past : Past) : Type 0 where
  pub resolved : AreResolved past
  pub apart : AreAllApart past
  pub counted : AreFiles (files_in past)

abbrev pub is_touched : Known → (first second : Past) → Path → Bool
is_touched c first second d = is_renewed c.changeset d || dirs_differ first second d

-- ---- by the definitions

abbrev pub nodes_in_past : Past → Path → Before
nodes_in_past past d = record { fsnode = fsnode (files_in past) d; unode = unode_at past d; unode_id = unode_id (unode_at past d) }

abbrev pub nodes_of : Past → Path → Option Before
nodes_of past d = if has_dir past d then Some (nodes_in_past past d) else None

abbrev pub roots_of : Past → Option Roots
roots_of Begin = None
roots_of (At c first second) = Some (record { fsnode = fsnode_id (fsnode (files_in (At c first second)) []); unode = unode_id (unode_at (At c first second) []); deleted = deleted_id (deleted (At c first second) []) })

abbrev pub all_nodes_of : Past → List (List ℕ)
all_nodes_of Begin = []
all_nodes_of (At c first second) = nodes_in (manifests_in c.id (At c first second))

-- ---- a job

pub record IsJobAt (c : Known) (first second : Past) (job : Job) : Type 0 where
  pub sound : IsSound (At c first second)
  pub changeset : arc_value job.commit ≡ c.changeset
  pub id : c.id ≡ id_of c.changeset
  pub first_roots : roots_before (first_of job.parents) ≡ roots_of first
  pub second_roots : roots_before (second_of job.parents) ≡ roots_of second
  pub first_nodes : (d : Path) → is_touched c first second d ≡ true → nodes_before (first_of job.parents) d ≡ nodes_of first d
  pub second_nodes : (d : Path) → is_touched c first second d ≡ true → nodes_before (second_of job.parents) d ≡ nodes_of second d
  -- no other directory is there at both parents with different ids of its unodes
  pub differ : (d : Path) → are_held_apart (first_of job.parents) (second_of job.parents) d ≡ true → dirs_differ first second d ≡ true
  pub files : AreComeAndGone c first second job.deletions.gone.items job.deletions.come.items
  pub held : AreHeldAt (held_in job.deletions.nodes) first (job.deletions.gone.items ++ job.deletions.come.items)

-- ---- what was derived

pub record IsDoneAt (c : Known) (first second : Past) (job : Job) (done : Done) : Type 0 where
  pub number : done.number ≡ job.number
  pub first_roots : done.first ≡ roots_of first
  pub second_roots : done.second ≡ roots_of second
  pub roots : Some done.roots ≡ roots_of (At c first second)
  pub right : AllByRecursion (Contains (all_nodes_of (At c first second))) done.nodes.items
  pub whole : (n : List ℕ) → Contains (all_nodes_of (At c first second)) n → Contains done.nodes.items n ⊎ (Contains (all_nodes_of first) n ⊎ Contains (all_nodes_of second) n)
  -- with one parent at most
  pub few : second ≡ Begin → length done.nodes.items ≤ (2 * length (renewed_dirs c.changeset) + length (sets_of c.changeset)) + length (ways (job.deletions.gone.items ++ job.deletions.come.items))
