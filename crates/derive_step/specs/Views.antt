-- How contracts see a job and what was derived.
--     Before, before_seen n      the nodes of a directory at the parent
--     first_of parents, second_of parents      the first parent, and the second
--     nodes_before parent d      the nodes that a job has of a parent;  roots_before parent      the parent's roots
--     are_held_apart first second d      both parents have nodes of a directory, and different unodes by their ids
--     held_in nodes id      the bytes of a node that is held

use Rattle.std.specs.Prelude.{ℕ, Bool, false, not, List, [], ◌∷◌, bytes_eq, Option, None, Some, option_map}
use Rattle.std.specs.Ordering.{nat_cmp}
use Rattle.std.specs.Cmp.Lexicographic.{slice_cmp}
use Rattle.std.specs.BTreeMap.{get}
use Rattle.byte_fields.specs.Bytes.{Id}
use Rattle.changeset_model.specs.Path.{Path, path_cmp}
use Rattle.manifest_model.specs.Fsnode.{Fsnode}
use Rattle.manifest_model.specs.Unode.{Unode}
use Rattle.fsnode.specs.Views.{fsnode_seen}
use Rattle.unode.specs.Views.{manifest_seen}
use Rattle.node_table.specs.declared.roots.Roots.{Roots}
use Rattle.derive_step.specs.declared.job.DirNodes.{DirNodes}
use Rattle.derive_step.specs.declared.held.HeldNodes.{HeldNodes}
use Rattle.derive_step.specs.declared.job.Parent.{Parent}
use Rattle.derive_step.specs.declared.job.Parents.{Parents}
use Rattle.derive_step.specs.declared.job.Parents.TheVariants.{Absent, One, Two}

pub record Before : Type 0 where
  pub fsnode : Fsnode
  pub unode : Unode
  pub unode_id : Id

abbrev pub before_seen : DirNodes → Before
before_seen n = record { fsnode = fsnode_seen n.fsnode; unode = manifest_seen n.unode; unode_id = n.unode_id }

abbrev pub first_of : Parents → Option Parent
first_of Absent = None
first_of (One p) = Some p
first_of (Two p q) = Some p

abbrev pub second_of : Parents → Option Parent
second_of Absent = None
second_of (One p) = None
second_of (Two p q) = Some q

abbrev pub nodes_before : Option Parent → Path → Option Before
nodes_before None d = None
nodes_before (Some p) [] = Some (before_seen p.root)
nodes_before (Some p) (e ∷ d) = option_map before_seen (get path_cmp p.dirs (e ∷ d))

abbrev pub roots_before : Option Parent → Option Roots
roots_before parent = option_map (λ p. p.roots) parent

abbrev pub are_apart : (a b : Option Before) → Bool
are_apart None b = false
are_apart (Some x) None = false
are_apart (Some x) (Some y) = not (bytes_eq x.unode_id y.unode_id)

abbrev pub are_held_apart : (first second : Option Parent) → Path → Bool
are_held_apart first second d = are_apart (nodes_before first d) (nodes_before second d)

abbrev pub held_in : HeldNodes → Id → Option (List ℕ)
held_in held id = get (slice_cmp nat_cmp) held.nodes id
