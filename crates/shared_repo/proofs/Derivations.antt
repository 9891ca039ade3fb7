-- From the turns of a derivation to its answer, and to that of a read.
use Rattle.std.proofs.Common.{◌≡◌, ℕ, ◌+◌, ◌<◌, List, ◌++◌, length, length-append, refl, sym, ap, subst, ◌∙◌, arith}
use Rattle.std.specs.Prelude.{Result, Err, false}
use mathlib.Core.List.{IsPrefix}
use Rattle.byte_fields.specs.Bytes.{Id}
use Rattle.history_model.specs.History.{Entry, Known, known}
use Rattle.history_model.specs.Past.{past}
use Rattle.history_model.specs.Journal.{Header}
use Rattle.byte_fields.proofs.Lists.{prefix_self, prefix_trans}
use Rattle.reply_model.specs.After.{After, Answer, Answers, Call, Derives, Looks, nothing, SeesMore}
use Rattle.reply_model.specs.Reply.{Question, HeadOf, ContentOf, ChangesetOf, LogFrom, FsnodeOf, UnodeOf, HistoryOf, CopiesOf, PathLogOf, DeletedOf, PolicyOf}
use Rattle.reply_model.proofs.Lines.{known-append, past_grows}
use Rattle.changeset_store.specs.Store.{known_at}
use Rattle.changeset_store.specs.Pasts.{past_at}
use Rattle.changeset_store.proofs.Places.{known_at-append}
use Rattle.repo_calls.specs.Asking.{IsAnswer, fault_answer, is_bad_bytes}
use Rattle.repo_calls.specs.declared.calls.AskFault.{AskFault}
use Rattle.repo_calls.specs.declared.calls.AskFault.TheVariants as faults
use Rattle.repo_calls.specs.declared.calls.Seen.{Seen}
use Rattle.derive_step.specs.declared.done.Done.{Done}
use Rattle.derive_step.specs.declared.job.Job.{Job}
use Rattle.manifest_store.specs.Jobs.{IsDoneIn}
use Rattle.manifest_store.proofs.Lines.{known_here}
use Rattle.repo_state.proofs.Reading as reading
use Rattle.repo_state.proofs.Reading.{Derived}
use Rattle.shared_repo.specs.Derivation.{AsksManifestOf, IsNextSome, WasDerived}
use Rattle.shared_repo.specs.declared.derivation_turns.Next.TheVariants as nexts
use Rattle.shared_repo.proofs.Fronts.{after_more, after_nothing}

-- ---- what was derived of a job

pub was_derived : (header : Header) (h : List Entry) (x : Id) (job : Job) (done : Done) → IsNextSome header h x (nexts.Job job) → Derived job done → WasDerived h done
was_derived header h x job done next is = record {
  then = h;
  begins = prefix_self h;
  derived = record {
    below = reading.done_known (known h) next.0 next.1.1.number job next.1.1.is_next done is;
    is_done = reading.done_right (known h) next.0 next.1.1.number job next.1.1.is_next done is;
  };
}

-- the past of a known changeset, where the history has grown
past_grown : (g rest : List Entry) (n : ℕ) → n < length (known g) → past_at (known (g ++ rest)) n ≡ past_at (known g) n
past_grown g rest n less =
    ap (λ (k : Known). past (known (g ++ rest)) k.id) (ap (λ ks. known_at ks n) (known-append g rest) ∙ known_at-append (known g) _ n less)
    ∙ past_grows g rest (known_at (known g) n).id (known_here (known g) n less)

more_known : (g rest : List Entry) (n : ℕ) → n < length (known g) → n < length (known (g ++ rest))
more_known g rest n less =
    let long : length (known (g ++ rest)) ≡ length (known g) + _ = ap length (known-append g rest) ∙ length-append (known g) _ in
    omega (arith, long)

pub still_below : (h : List Entry) (done : Done) → WasDerived h done → done.number < length (known h)
still_below h done w = subst (λ (h : List Entry). done.number < length (known h)) w.begins.1 (more_known w.then w.begins.0 done.number w.derived.below)

pub still_done : (h : List Entry) (done : Done) → WasDerived h done → IsDoneIn (past_at (known h) done.number) done
still_done h done w =
    subst (λ (h : List Entry). IsDoneIn (past_at (known h) done.number) done) w.begins.1
    (subst (λ q. IsDoneIn q done) (sym (past_grown w.then w.begins.0 done.number w.derived.below)) w.derived.is_done)

pub derived_later : (g h : List Entry) (done : Done) → IsPrefix g h → WasDerived g done → WasDerived h done
derived_later g h done begins w = record { then = w.then; begins = prefix_trans w.then g h w.begins begins; derived = w.derived }

-- ---- reads

-- a request to derive reads no content
pub derives_fine : (header : Header) (h : List Entry) (x : Id) (fault : AskFault) → Answers header h (Derives x) (fault_answer fault) nothing → is_bad_bytes {T = Seen} (Err fault) ≡ false
derives_fine header h x (faults.NoContent id) a = refl
derives_fine header h x (faults.NoChangeset id) a = refl
derives_fine header h x faults.NoPath a = refl
derives_fine header h x faults.NotADir a = refl
derives_fine header h x faults.NotAFile a = refl
derives_fine header h x faults.NoPolicy a = refl
derives_fine header h x (faults.Collision id) a = refl
derives_fine header h x faults.ReadFault a = refl
derives_fine header h x (faults.BadBytes wanted found) a = absurd a
derives_fine header h x faults.Memory a = refl

pub reads_after : (header : Header) (old between new : List Entry) (who : ℕ) (call : Call) (result : Result Seen AskFault) → SeesMore old who between → (answer : Answer) × IsAnswer result answer × After header between who call answer new
    → (answer : Answer) × IsAnswer result answer × After header old who call answer new
reads_after header old between new who call result sees told = (told.0, told.1, after_more header old between new who call told.0 sees told.2)

module _ (header : Header) (old new : List Entry) (who : ℕ) (x : Id) (fault : AskFault) (sees : SeesMore old who new) (a : Answers header new (Derives x) (fault_answer fault) nothing) where
  abbrev Answered : Call → Type 0
  Answered call = (answer : Answer) × IsAnswer (Err fault) answer × After header old who call answer new

  answered : (call : Call) → Answers header new call (fault_answer fault) nothing → Answered call
  answered call told = (fault_answer fault, refl, after_nothing header old new who call (fault_answer fault) sees told)

  at : (q : Id → Question) (y : Id) → y ≡ x → Answers header new (Looks (q x)) (fault_answer fault) nothing → Answered (Looks (q y))
  at q y is told = answered (Looks (q y)) (subst (λ z. Answers header new (Looks (q z)) (fault_answer fault) nothing) (sym is) told)

  pub not_derived : (q : Question) → AsksManifestOf x q → Answered (Looks q)
  not_derived (HeadOf name) of = absurd of
  not_derived (ContentOf id) of = absurd of
  not_derived (ChangesetOf id) of = absurd of
  not_derived (LogFrom n) of = absurd of
  not_derived (CopiesOf id) of = absurd of
  not_derived (PolicyOf number) of = absurd of
  not_derived (FsnodeOf id d) of = at (λ z. FsnodeOf z d) id of (reading.fsnode_not_derived header new x d fault a)
  not_derived (UnodeOf id p) of = at (λ z. UnodeOf z p) id of (reading.unode_not_derived header new x p fault a)
  not_derived (HistoryOf id p) of = at (λ z. HistoryOf z p) id of (reading.history_not_derived header new x p fault a)
  not_derived (PathLogOf id p) of = at (λ z. PathLogOf z p) id of (reading.log_not_derived header new x p fault a)
  not_derived (DeletedOf id p) of = at (λ z. DeletedOf z p) id of (reading.deleted_not_derived header new x p fault a)
