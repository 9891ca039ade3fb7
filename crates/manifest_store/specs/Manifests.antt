-- The manifests of known changesets in a table of nodes. Their pasts may have merges.
--     IsRight past      each changeset of it was accepted on its parents, the files can be counted, and all its nodes can be spelled
--     AreRight ks      so it is with each known changeset
--     HoldsAll m past      all nodes of a changeset stand under their digests
--     AreManifests ks t      of the settled changesets, and of no others, the table has the definitions' manifests, and with a changeset its parents are settled
use Rattle.std.specs.Prelude.{◌≡◌, ◌<◌, ℕ, true, List, length, Contains, Some}
use Rattle.std.specs.FinMap as map
use Rattle.changeset_model.specs.Path.{Path}
use Rattle.changeset_model.specs.Changeset.{File}
use Rattle.history_model.specs.History.{Known}
use Rattle.history_model.specs.Past.{Past}
use Rattle.history_model.specs.Tree.{files_in, tree_of}
use Rattle.manifest_model.specs.Unode.{is_unode}
use Rattle.manifest_model.specs.Merged.{unode_at}
use Rattle.manifest_model.specs.Deleted.{deleted, is_deleted}
use Rattle.manifest_laws.specs.Rules.{AreFiles}
use Rattle.merge_laws.specs.Resolved.{AreResolved, has_dir}
use Rattle.node_table.specs.Table.{Nodes, Table, Has, is_settled}
use Rattle.changeset_store.specs.Store.{parent_at, second_parent_at}
use Rattle.changeset_store.specs.Pasts.{past_at}
use Rattle.derive_step.specs.Pasts.{roots_of, all_nodes_of}
use Rattle.manifest_store.specs.Lines.{IsStore}

-- fsnodes can be spelled where the files can be counted
pub record IsRight (past : Past) : Type 0 where
  pub resolved : AreResolved past
  pub counted : AreFiles (files_in past)
  pub directories : (d : Path) → has_dir past d ≡ true → is_unode (unode_at past d) ≡ true
  pub files : (p : Path) (f : File) → tree_of past p ≡ Some f → is_unode (unode_at past p) ≡ true
  pub deletions : (d : Path) → is_deleted (deleted past d) ≡ true

abbrev pub AreRight : List Known → Type 0
AreRight ks = (n : ℕ) → n < length ks → IsRight (past_at ks n)

abbrev pub HoldsAll : Nodes → Past → Type 0
HoldsAll m past = (bytes : List ℕ) → Contains (all_nodes_of past) bytes → Has m bytes

-- a node of a settled changeset
abbrev pub IsSettledNode : List Known → Table → List ℕ → Type 0
IsSettledNode ks t bytes = (n : ℕ) × (is_settled t n ≡ true) × Contains (all_nodes_of (past_at ks n)) bytes

pub record AreManifests (ks : List Known) (t : Table) : Type 0 where
  pub store : IsStore ks
  pub right : AreRight ks
  pub numbered : (n : ℕ) → is_settled t n ≡ true → n < length ks
  pub roots : (n : ℕ) → is_settled t n ≡ true → map.get t.roots n ≡ roots_of (past_at ks n)
  pub held : (n : ℕ) → is_settled t n ≡ true → HoldsAll t.nodes (past_at ks n)
  pub alone : (bytes : List ℕ) → Has t.nodes bytes → IsSettledNode ks t bytes
  pub parents : (n p : ℕ) → is_settled t n ≡ true → parent_at ks n ≡ Some p → is_settled t p ≡ true
  pub second_parents : (n p : ℕ) → is_settled t n ≡ true → second_parent_at ks n ≡ Some p → is_settled t p ≡ true
