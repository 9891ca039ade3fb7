-- The manifests of a repository's changesets, as far as they are settled.
--     HasManifests header h t      the table has those of the settled changesets of the history, of which all can be numbered and counted
--     IsNextOf ks t x next      the next job of the past of a known changeset, or none where all of it is settled
--     is_settled_id ks t x      x is the id of a known changeset that is settled
--     asks_manifest question      the read is answered from manifests
--     manifest_fault fault, table_fault fault      why a read sees nothing, where manifests can't be read, or put in
--     ids_answer result      the answer of a read that sees ids
--     roots_answer result      the answer to a request to derive a changeset's manifests
use Rattle.std.specs.Prelude.{◌≡◌, ◌<◌, ℕ, Bool, true, false, List, length, Option, Some, Vec, Result, Ok, Err}
use Rattle.std.specs.Option.{option_map_or}
use Rattle.byte_fields.specs.Bytes.{Id}
use Rattle.history_model.specs.History.{Entry, Known, known}
use Rattle.history_model.specs.Journal.{Header, is_header}
use Rattle.node_table.specs.Table.{Table, is_settled}
use Rattle.node_table.specs.declared.roots.Roots.{Roots}
use Rattle.changeset_store.specs.Store.{number_in}
use Rattle.derive_step.specs.declared.job.Job.{Job}
use Rattle.manifest_store.specs.Jobs.{IsNext}
use Rattle.manifest_store.specs.Manifests.{AreManifests}
use Rattle.manifest_store.specs.declared.fault.ManifestFault.{ManifestFault}
use Rattle.manifest_store.specs.declared.fault.ManifestFault.TheVariants as reads
use Rattle.node_table.specs.declared.fault.TableFault.{TableFault}
use Rattle.node_table.specs.declared.fault.TableFault.TheVariants as tables
use Rattle.reply_model.specs.After as answers
use Rattle.reply_model.specs.After.{Answer}
use Rattle.reply_model.specs.Reply as reply
use Rattle.repo_calls.specs.Asking.{fault_answer}
use Rattle.repo_calls.specs.declared.calls.AskFault.{AskFault}
use Rattle.repo_calls.specs.declared.calls.AskFault.TheVariants as asked
use Rattle.repo_calls.specs.declared.calls.Question.{Question}
use Rattle.repo_calls.specs.declared.calls.Question.TheVariants.{Head, Content, Changeset, Log, Fsnode, Unode, History, Copies, PathLog, Deleted, Policy}

pub record HasManifests (header : Header) (h : List Entry) (t : Table) : Type 0 where
  pub header_fits : is_header header ≡ true
  pub manifests : AreManifests (known h) t

pub record IsNextOf (ks : List Known) (t : Table) (x : Id) (next : Option Job) : Type 0 where
  pub number : ℕ
  pub below : number < length ks
  pub numbered : number_in ks x ≡ Some number
  pub is_next : IsNext ks t number next

abbrev pub is_settled_id : List Known → Table → Id → Bool
is_settled_id ks t x = option_map_or (is_settled t) (number_in ks x) false

abbrev pub asks_manifest : Question → Bool
asks_manifest (Head name) = false
asks_manifest (Content id) = false
asks_manifest (Changeset id) = false
asks_manifest (Log from) = false
asks_manifest (Fsnode id dir) = true
asks_manifest (Unode id path) = true
asks_manifest (History id path) = true
asks_manifest (Copies id) = false
asks_manifest (PathLog id path) = true
asks_manifest (Deleted id dir) = true
asks_manifest (Policy number) = false

abbrev pub manifest_fault : ManifestFault → AskFault
manifest_fault reads.NoPath = asked.NoPath
manifest_fault reads.NotADir = asked.NotADir
manifest_fault reads.NotAFile = asked.NotAFile
manifest_fault reads.Memory = asked.Memory

abbrev pub table_fault : TableFault → AskFault
table_fault (tables.Collision id) = asked.Collision id
table_fault tables.Memory = asked.Memory

abbrev pub ids_answer : {A : Type 0} → Result (Vec Id A) AskFault → Answer
ids_answer (Ok ids) = answers.Shows (reply.SeenIds ids.items)
ids_answer (Err fault) = fault_answer fault

abbrev pub roots_answer : Result Roots AskFault → Answer
roots_answer (Ok roots) = answers.Roots roots.fsnode roots.unode roots.deleted
roots_answer (Err fault) = fault_answer fault
