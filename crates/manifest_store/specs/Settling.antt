-- Why what was derived could not be put in.
--     IsCollision ks fault      two different nodes of known changesets have the digest that is told, or memory ran out
--     IsNodeBeside ks t n bytes      a node of a settled changeset, or of the one of the number n
--     IsCollisionBeside ks t n fault      two different ones of these have the digest that is told, or memory ran out
use Rattle.std.specs.Prelude.{◌≡◌, ◌≢◌, ◌⊎◌, ℕ, List, Contains}
use Rattle.sha2.specs.Sha256.{sha256}
use Rattle.byte_fields.specs.Bytes.{Id}
use Rattle.history_model.specs.History.{Known}
use Rattle.reply_model.specs.After.{NodesCollide}
use Rattle.node_table.specs.Table.{Table}
use Rattle.node_table.specs.declared.fault.TableFault.{TableFault}
use Rattle.node_table.specs.declared.fault.TableFault.TheVariants as faults
use Rattle.changeset_store.specs.Pasts.{past_at}
use Rattle.derive_step.specs.Pasts.{all_nodes_of}
use Rattle.manifest_store.specs.Manifests.{IsSettledNode}

abbrev pub IsCollision : List Known → TableFault → Type 0
IsCollision ks (faults.Collision id) = NodesCollide ks id
IsCollision ks faults.Memory = Unit {0}

abbrev pub IsNodeBeside : List Known → Table → ℕ → List ℕ → Type 0
IsNodeBeside ks t n bytes = IsSettledNode ks t bytes ⊎ Contains (all_nodes_of (past_at ks n)) bytes

abbrev pub CollideBeside : List Known → Table → ℕ → Id → Type 0
CollideBeside ks t n x = (a b : List ℕ) × IsNodeBeside ks t n a × IsNodeBeside ks t n b × (a ≢ b) × (sha256 a ≡ x) × (sha256 b ≡ x)

abbrev pub IsCollisionBeside : List Known → Table → ℕ → TableFault → Type 0
IsCollisionBeside ks t n (faults.Collision id) = CollideBeside ks t n id
IsCollisionBeside ks t n faults.Memory = Unit {0}
