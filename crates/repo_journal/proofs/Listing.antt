-- The records that were listed so far.
use Rattle.std.proofs.Common.{◌≡◌, ℕ, ◌+◌, ◌≤◌, false, List, [], ◌∷◌, ◌++◌, take, sym, ap, subst, ◌∙◌, arith}
use Rattle.std.specs.Prelude.{All, IsTrue}
use Rattle.std.proofs.lemmas.List.Elements.{All-push}
use Rattle.ports.specs.Faults.{Counts}
use Rattle.disk_model.specs.Images.{IsImage}
use Rattle.disk_model.specs.Meaning.{Meaning, IsSound, IsLong}
use Rattle.disk_model.specs.Calls.{Kept, LeavesOnly, Looked}
use Rattle.repo_journal.specs.Scanning.{Window, Holds, IsNext, gate_after, step_at}
use Rattle.repo_journal.specs.Spans.{HasRecords, IsInside, first_span, spans_from}
use Rattle.repo_journal.specs.declared.span.Span.{Span}
use Rattle.repo_journal.specs.declared.step.Step.{Step}
use Rattle.repo_journal.specs.declared.step.Step.TheVariants.{Record}
use Rattle.repo_journal.proofs.RecordsLeft.{AreFound, one_more_found, all_found, first_step, span_of, no_span}
use Rattle.repo_journal.proofs.Walks.{Walked, walk_then}

pub record Listed (old now : Meaning) (size : ℕ) (w : Window) (spans : List Span) : Type 0 where
  pub behind : 16 ≤ w.gate
  pub same : w.size ≡ size
  pub inside : All (IsInside size) spans
  pub walked : Walked old now
  pub holds : IsTrue old.honest → Holds w old.state.reads
  pub found : IsTrue old.honest → (payloads : List (List ℕ)) → HasRecords 16 size payloads old.state.reads → AreFound payloads w.gate size spans old.state.reads

-- what the scanner tells of its next step
pub record Went (now next : Meaning) (w v : Window) (step : Step) : Type 0 where
  pub is : IsTrue now.honest → Holds w now.state.reads → step ≡ step_at (take w.size now.state.reads) w.gate
  pub gate : v.gate ≡ gate_after w.gate step
  pub inside : IsNext w.gate w.size step
  pub size : v.size ≡ w.size
  pub holds : IsTrue now.honest → Holds w now.state.reads → Holds v now.state.reads
  pub looked : Looked now next
  pub kept : Kept now next
  pub time : LeavesOnly (IsImage next.state) now next
  pub counts : Counts now.faults next.faults false

module _ {old now next : Meaning} {size : ℕ} {w v : Window} {spans : List Span} {step : Step} (listed : Listed old now size w spans) (went : Went now next w v step) where
  pub went_on : Walked old next
  went_on = walk_then old now next listed.walked went.looked went.kept went.time went.counts

  held_now : IsTrue old.honest → Holds w now.state.reads
  held_now honest = subst (λ d. Holds w d.reads) (sym (listed.walked.looked honest)) (listed.holds honest)

  honest_now : IsTrue old.honest → IsTrue now.honest
  honest_now honest = listed.walked.kept.honest ∙ honest

  step_is : IsTrue old.honest → step ≡ step_at (take size old.state.reads) w.gate
  step_is honest =
      went.is (honest_now honest) (held_now honest)
      ∙ ap (λ d. step_at (take w.size d.reads) w.gate) (listed.walked.looked honest)
      ∙ ap (λ n. step_at (take n old.state.reads) w.gate) listed.same

  module _ (sound : IsSound old) (long : IsLong old.reads size) where
    first_is : IsTrue old.honest → (payloads : List (List ℕ)) → HasRecords w.gate size payloads old.state.reads → span_of step ≡ first_span w.gate payloads
    first_is honest payloads has = ap (λ s. span_of s) (step_is honest) ∙ first_step payloads has (long old.state.reads (sound.reads honest))

    pub list_more : (span : Span) → step ≡ Record span → (after : List Span) → after ≡ spans ++ span ∷ [] → Listed old next size v after
    list_more span is after grows =
        let inside : IsNext w.gate w.size (Record span) = subst (λ s. IsNext w.gate w.size s) is went.inside in
        let gate : v.gate ≡ span.at + span.length = went.gate ∙ ap (λ s. gate_after w.gate s) is in
        record {
          behind = (let b = listed.behind in let i = inside.0 in omega arith);
          same = went.size ∙ listed.same;
          inside = subst (λ ss. All (IsInside size) ss) (sym grows) (All-push (IsInside size) spans span listed.inside (record { behind = (let b = listed.behind in let i = inside.0 in omega arith); within = (let i = inside.1 in let s = listed.same in omega arith) }));
          walked = went_on;
          holds = λ honest. subst (λ d. Holds v d.reads) (listed.walked.looked honest) (went.holds (honest_now honest) (held_now honest));
          found = λ honest payloads has.
              (let f = listed.found honest payloads has in
              subst (λ n. AreFound payloads n size after old.state.reads) (sym gate)
              (one_more_found f span (sym (ap (λ s. span_of s) is) ∙ first_is honest f.left f.has) after grows));
        }

    pub list_end : ((span : Span) → step ≡ Record span → ⊥) → IsTrue old.honest → (payloads : List (List ℕ)) → HasRecords 16 size payloads old.state.reads → spans ≡ spans_from 16 payloads
    list_end not honest payloads has =
        let f = listed.found honest payloads has in
        all_found f (sym (no_span step not) ∙ first_is honest f.left f.has)
