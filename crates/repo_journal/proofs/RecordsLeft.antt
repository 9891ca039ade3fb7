-- The records of a file, one after another.
use Rattle.std.proofs.Common.{◌≡◌, ℕ, suc, ◌+◌, ◌-◌, ◌<◌, ◌≤◌, cond, List, [], ◌∷◌, ◌++◌, length, take, drop, refl, sym, ap, subst, ◌∙◌, arith, append_assoc}
use Rattle.std.specs.Prelude.{Option, None, Some, true, false, nat_lt, slice_index, ◌==◌}
use Rattle.std.specs.Int.{w32, from_be_bytes, to_be_bytes}
use Rattle.std.proofs.lemmas.List.{length-append, length-drop, length-take, drop-drop, drop-take, take-take, append-nil}
use Rattle.std.proofs.Math.Seq.{drop-append_seam}
use Rattle.byte_fields.proofs.FieldLemmas.{spelled_32}
use Rattle.history_model.specs.Journal.{open_record}
use Rattle.repo_journal.specs.declared.span.Span.{Span}
use Rattle.repo_journal.specs.declared.step.Step.{Step}
use Rattle.repo_journal.specs.declared.step.Step.TheVariants.{Closed, Record, Bad}
use Rattle.repo_journal.specs.Scanning.{head_step, open_step, sized_step, step_of, step_at}
use Rattle.repo_journal.proofs.Windows.{gate_by_head}
use Rattle.repo_journal.specs.Payloads.{records}
use Rattle.repo_journal.specs.Spans.{HasRecords, first_span, spans_from}
use Rattle.blob_disk.proofs.Memories.{ltb-not as not_less}
use Rattle.history_model.proofs.Clashes.{same_some as some_same}

length-open_record : (payload : List ℕ) → length (open_record payload) ≡ 5 + length payload
length-open_record payload =
    let width : length (to_be_bytes w32 (length payload)) ≡ 4 = refl in
    let whole = length-append (to_be_bytes w32 (length payload)) payload in
    omega arith

length-records : (payload : List ℕ) (payloads : List (List ℕ)) → length (records (payload ∷ payloads)) ≡ 5 + length payload + length (records payloads)
length-records payload payloads =
    let whole = length-append (open_record payload) (records payloads) in
    let first = length-open_record payload in
    omega arith

-- where more than a closing gate is left, the four bytes behind a gate are a payload's length
pub length_read : {gate size : ℕ} {file : List ℕ} (payloads : List (List ℕ)) → HasRecords gate size payloads file → gate + 5 < size → (head : List ℕ) → head ≡ take 4 (drop (gate + 1) file)
    → (payload : List ℕ) × (later : List (List ℕ)) × (payloads ≡ payload ∷ later) × (from_be_bytes w32 head ≡ length payload) × (gate + 5 + length payload < size)
length_read [] has more head is = let end = has.size_is in absurd (omega arith)
length_read {gate} {size} {file} (payload ∷ later) has more head is =
    let len = length-records payload later in
    let end = has.size_is in
    (payload, later, refl, ap (from_be_bytes w32) (is ∙ ap (take 4) behind) ∙ (spelled_32 (length payload) (has.small 0 [] (omega arith))).back, omega arith)
  where
    behind : drop (gate + 1) file ≡ drop 1 (records (payload ∷ later) ++ has.rest)
    behind = sym (drop-drop 1 gate file) ∙ ap (drop 1) has.is

-- behind a payload stand the later ones
pub later_records : {gate size : ℕ} {file : List ℕ} (payload : List ℕ) (later : List (List ℕ)) → HasRecords gate size (payload ∷ later) file → HasRecords (gate + 5 + length payload) size later file
later_records {gate} {size} {file} payload later has = record {
  small = λ k d inside. has.small (suc k) d (omega arith);
  rest = has.rest;
  is =
      ap (λ n. drop n file) far
      ∙ sym (drop-drop (length (open_record payload)) gate file)
      ∙ ap (drop (length (open_record payload))) (has.is ∙ append_assoc (open_record payload) (records later) has.rest)
      ∙ drop-append_seam (open_record payload) (records later ++ has.rest);
  size_is = (let len = length-records payload later in let end = has.size_is in omega arith);
}
  where
    far : gate + 5 + length payload ≡ gate + length (open_record payload)
    far = let len = length-open_record payload in omega arith

-- ---- what stands at a gate

abbrev pub span_of : Step → Option Span
span_of Closed = None
span_of (Record span) = Some span
span_of (Bad at) = None

pub no_span : (step : Step) → ((span : Span) → step ≡ Record span → ⊥) → span_of step ≡ None
no_span Closed not = refl
no_span (Record span) not = absurd (not span refl)
no_span (Bad at) not = refl

last_gate : (gate : ℕ) (bytes : List ℕ) → length bytes ≡ 1 → span_of (step_of gate bytes) ≡ None
last_gate gate [] one = absurd (omega arith)
last_gate gate (mark ∷ []) one = elim (mark == 1) as (λ b. span_of (cond b (open_step gate []) Closed) ≡ None) [ true ↦ refl | false ↦ refl ]
last_gate gate (mark ∷ (b ∷ bytes)) one = absurd (omega arith)

whole_step : (gate len left : ℕ) → len ≤ left → sized_step gate len left ≡ Record (record { at = gate + 5; length = len })
whole_step gate len left fits = ap (λ b. cond b (Bad gate) (Record (record { at = gate + 5; length = len }))) (not_less left len fits)

-- a record by its first five bytes
record_head : (gate len behind : ℕ) (head : List ℕ) → slice_index head 0 ≡ 1 → from_be_bytes w32 (take 4 (drop 1 head)) ≡ len → len + 4 ≤ behind → head_step gate head behind ≡ Record (record { at = gate + 5; length = len })
record_head gate len behind head one is fits =
    ap (λ x. cond (x == 1) (cond (nat_lt behind 4) (Bad gate) (sized_step gate (from_be_bytes w32 (take 4 (drop 1 head))) (behind - 4))) Closed) one
    ∙ ap (λ b. cond b (Bad gate) (sized_step gate (from_be_bytes w32 (take 4 (drop 1 head))) (behind - 4))) (not_less behind 4 (omega arith))
    ∙ ap (λ n. sized_step gate n (behind - 4)) is
    ∙ whole_step gate len (behind - 4) (omega arith)

-- the first payload is what stands at the gate
pub first_step : {gate size : ℕ} {file : List ℕ} (payloads : List (List ℕ)) → HasRecords gate size payloads file → size ≤ length file → span_of (step_at (take size file) gate) ≡ first_span gate payloads
first_step {gate} {size} {file} [] has long =
    let end = has.size_is in
    let t = length-take size file in
    let d = length-drop gate (take size file) in
    last_gate gate (drop gate (take size file)) (omega arith)
first_step {gate} {size} {file} (payload ∷ later) has long =
    let head = take 5 (drop gate file) in
    let len = length-records payload later in
    let end = has.size_is in
    let inside : gate < size = omega arith in
    let field : take 4 (drop 1 head) ≡ take 4 (drop (gate + 1) file) = ap (λ xs. take 4 xs) (drop-take 1 4 (drop gate file) ∙ ap (λ xs. take 4 xs) (drop-drop 1 gate file)) ∙ take-take 4 4 (drop (gate + 1) file) (omega arith) in
    let told = length_read (payload ∷ later) has (omega arith) (take 4 (drop 1 head)) field in
    let same : length payload ≡ length told.0 = ap (λ ps. length (first_of payload ps)) told.2 in
    ap (λ s. span_of s) (sym (gate_by_head file head gate size 4 long inside (omega arith) refl) ∙ record_head gate (length payload) (size - gate - 1) head (ap (λ xs. slice_index (take 5 xs) 0) has.is) (told.3 ∙ sym same) (omega arith))
  where
    first_of : List ℕ → List (List ℕ) → List ℕ
    first_of d [] = d
    first_of d (p ∷ ps) = p

-- these spans were found up to this gate, and from it on the later payloads stand
pub record AreFound (payloads : List (List ℕ)) (gate size : ℕ) (spans : List Span) (file : List ℕ) : Type 0 where
  pub left : List (List ℕ)
  pub has : HasRecords gate size left file
  pub are : spans ++ spans_from gate left ≡ spans_from 16 payloads

pub none_found : (payloads : List (List ℕ)) (size : ℕ) (file : List ℕ) → HasRecords 16 size payloads file → AreFound payloads 16 size [] file
none_found payloads size file has = record { left = payloads; has = has; are = refl }

pub one_more_found : {payloads : List (List ℕ)} {gate size : ℕ} {spans : List Span} {file : List ℕ} (found : AreFound payloads gate size spans file) (span : Span) → Some span ≡ first_span gate found.left → (after : List Span) → after ≡ spans ++ span ∷ [] → AreFound payloads (span.at + span.length) size after file
one_more_found {payloads} {gate} {size} {spans} {file} found span next after grows = by found.left found.has found.are next
  where
    by : (left : List (List ℕ)) → HasRecords gate size left file → spans ++ spans_from gate left ≡ spans_from 16 payloads → Some span ≡ first_span gate left → AreFound payloads (span.at + span.length) size after file
    by [] has are is = absurd cc
    by (payload ∷ later) has are is =
        let same : span ≡ record { at = gate + 5; length = length payload } = some_same span (record { at = gate + 5; length = length payload }) is in
        record {
          left = later;
          has = subst (λ s. HasRecords (s.at + s.length) size later file) (sym same) (later_records payload later has);
          are = (λ i. grows i ++ spans_from ((same i).at + (same i).length) later) ∙ append_assoc spans (span ∷ []) (spans_from (gate + 5 + length payload) later) ∙ (λ i. spans ++ same i ∷ spans_from (gate + 5 + length payload) later) ∙ are;
        }

pub all_found : {payloads : List (List ℕ)} {gate size : ℕ} {spans : List Span} {file : List ℕ} (found : AreFound payloads gate size spans file) → None ≡ first_span gate found.left → spans ≡ spans_from 16 payloads
all_found {payloads} {gate} {size} {spans} {file} found end = by found.left found.are end
  where
    by : (left : List (List ℕ)) → spans ++ spans_from gate left ≡ spans_from 16 payloads → None ≡ first_span gate left → spans ≡ spans_from 16 payloads
    by [] are is = sym (append-nil spans) ∙ are
    by (payload ∷ later) are is = absurd cc
