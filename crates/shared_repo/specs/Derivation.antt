-- What a seat knows between the turns of a derivation.
--     AsksManifestOf x question      the read is answered from the manifests of this changeset
--     IsNextAt header h t x next      where a repository has these manifests: the next job of the changeset's past, or its roots where nothing is lacking
--     IsNextSome header h x next      it is so for the manifests of some changesets
--     IsDerivedAt h done      it was derived of a changeset that the history makes known
--     WasDerived h done      it was so at a history with which h begins
use Rattle.std.specs.Prelude.{◌≡◌, ◌<◌, List, length, Some}
use mathlib.Core.List.{IsPrefix}
use Rattle.byte_fields.specs.Bytes.{Id}
use Rattle.history_model.specs.History.{Entry, known}
use Rattle.history_model.specs.Journal.{Header}
use Rattle.changeset_store.specs.Pasts.{past_at}
use Rattle.derive_step.specs.declared.done.Done.{Done}
use Rattle.manifest_store.specs.Jobs.{IsDoneIn}
use Rattle.manifest_store.specs.Manifests.{AreManifests}
use Rattle.node_table.specs.Table.{Table}
use Rattle.reply_model.specs.After as answers
use Rattle.reply_model.specs.After.{Answers, Derives, nothing}
use Rattle.reply_model.specs.Reply.{Question, HeadOf, ContentOf, ChangesetOf, LogFrom, FsnodeOf, UnodeOf, HistoryOf, CopiesOf, PathLogOf, DeletedOf, PolicyOf}
use Rattle.repo_state.specs.Manifests.{IsNextOf}
use Rattle.shared_repo.specs.declared.derivation_turns.Next.{Next}
use Rattle.shared_repo.specs.declared.derivation_turns.Next.TheVariants.{Job, Roots}

abbrev pub AsksManifestOf : Id → Question → Type 0
AsksManifestOf x (HeadOf name) = ⊥
AsksManifestOf x (ContentOf id) = ⊥
AsksManifestOf x (ChangesetOf id) = ⊥
AsksManifestOf x (LogFrom n) = ⊥
AsksManifestOf x (FsnodeOf id d) = id ≡ x
AsksManifestOf x (UnodeOf id p) = id ≡ x
AsksManifestOf x (HistoryOf id p) = id ≡ x
AsksManifestOf x (CopiesOf id) = ⊥
AsksManifestOf x (PathLogOf id p) = id ≡ x
AsksManifestOf x (DeletedOf id p) = id ≡ x
AsksManifestOf x (PolicyOf number) = ⊥

abbrev pub IsNextAt : Header → List Entry → Table → Id → Next → Type 0
IsNextAt header h t x (Job job) = AreManifests (known h) t × IsNextOf (known h) t x (Some job)
IsNextAt header h t x (Roots roots) = Answers header h (Derives x) (answers.Roots roots.fsnode roots.unode roots.deleted) nothing

abbrev pub IsNextSome : Header → List Entry → Id → Next → Type 0
IsNextSome header h x next = (t : Table) × IsNextAt header h t x next

pub record IsDerivedAt (h : List Entry) (done : Done) : Type 0 where
  pub below : done.number < length (known h)
  pub is_done : IsDoneIn (past_at (known h) done.number) done

pub record WasDerived (h : List Entry) (done : Done) : Type 0 where
  pub then : List Entry
  pub begins : IsPrefix then h
  pub derived : IsDerivedAt then done
