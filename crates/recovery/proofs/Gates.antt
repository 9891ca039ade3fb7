-- From one gate of a file to the next.
use Rattle.std.proofs.Common.{◌≡◌, ◌⊎◌, ℕ, suc, ◌+◌, ◌-◌, ◌<◌, ◌≤◌, ◌^◌, min, List, [], ◌∷◌, ◌++◌, length, take, drop, refl, sym, ap, subst, ◌∙◌, inl, inr, arith}
use Rattle.std.specs.Prelude.{None, Some, Err, IsTrue}
use Rattle.std.proofs.lemmas.Bool.{cases_lt}
use Rattle.std.proofs.lemmas.List.{length-drop, length-take}
use Rattle.disk_model.specs.Meaning.{Meaning, IsSound, IsLong}
use Rattle.disk_model.specs.Calls.{Kept, Looked}
use Rattle.history_model.specs.History.{Body, Entry, stored, unnumbered}
use Rattle.history_model.specs.Journal.{Header, is_header, most_payload, size}
use Rattle.reply_model.specs.Legal.{IsLegal}
use Rattle.reply_model.specs.Opening.{next_entry, opens}
use Rattle.reply_model.specs.Opening as model
use Rattle.opening_laws.proofs.Sizes.{history_fits}
use Rattle.repo_journal.specs.Scanning.{Window, Holds, IsHeld, IsNext, payload_at, step_at}
use Rattle.repo_journal.specs.declared.span.Span.{Span}
use Rattle.repo_journal.specs.declared.step.Step.{Step}
use Rattle.repo_journal.specs.declared.step.Step.TheVariants.{Closed, Record, Bad}
use Rattle.repo_journal.proofs.Opened.{bad_gate, closed_gate, refused_record, taken_record}
use Rattle.recovery.specs.Entering.{Comes}
use Rattle.recovery.specs.Headers.{IsHeaded}
use Rattle.recovery.specs.Reading.{IsAt, IsRead, Reaches}
use Rattle.recovery.specs.declared.records.TheConstants.{MOST_READ}
use Rattle.recovery.proofs.FirstBytes.{limits_of}
use Rattle.recovery.proofs.LongerFiles.{step_shown}
use Rattle.recovery.proofs.NextEntries.{too_long}

-- it has room for its header, its gate and what was read
pub room_of : (header : Header) (h : List Entry) → IsTrue (is_header header) → IsLegal header h → (size h ≤ header.capacity) × (header.capacity ≤ 34_359_738_368)
room_of header h good legal = let limits = limits_of header good in (history_fits header h (let least = limits.0 in omega arith) legal, limits.1)

-- ---- a look at the disk

pub moved : (m n : Meaning) (header : Header) (h : List Entry) (gate : ℕ) (w v : Window) → IsAt m header h gate w → Looked m n → Kept m n → v.size ≡ w.size → (IsTrue m.honest → Holds w m.state.reads → Holds v m.state.reads) → IsAt n header h gate v
moved m n header h gate w v at looked kept same holds = record {
  limits = at.limits;
  legal = at.legal;
  stored_is = at.stored_is;
  gate_is = at.gate_is;
  long = subst (λ k. IsLong n.reads k) (sym same) (kept.no_shorter w.size at.long);
  far = λ honest. same ∙ at.far (was honest) ∙ ap (λ d. min (length d.reads) MOST_READ) (sym (looked (was honest)));
  holds = λ honest. subst (λ d. Holds v d.reads) (sym (looked (was honest))) (holds (was honest) (at.holds (was honest)));
  reaches = λ honest. subst (λ d. Reaches header h gate d.reads) (sym (looked (was honest))) (at.reaches (was honest));
}
  where
    was : IsTrue n.honest → IsTrue m.honest
    was honest = sym kept.honest ∙ honest

-- ---- the step at a gate

module _ {m : Meaning} {header : Header} {h : List Entry} {gate : ℕ} {w : Window} (at : IsAt m header h gate w) where
  -- the scanner's file goes on far enough
  shown_far : IsTrue m.honest → (length m.state.reads ≤ w.size) ⊎ (gate + 5 + 2 ^ 32 ≤ w.size)
  shown_far honest =
      let far = at.far honest in
      let room = room_of header h at.limits at.legal in
      let fits = room.0 in
      let most = room.1 in
      let place = at.gate_is in
      elim (cases_lt MOST_READ (length m.state.reads)) [
        | inl longer ↦ inr (omega arith)
        | inr whole ↦ inl (omega arith)
      ]

  pub step_seen : (step : Step) → IsSound m → IsTrue m.honest → step ≡ step_at (take w.size m.state.reads) gate → step ≡ step_at m.state.reads gate
  step_seen step sound honest is = is ∙ step_shown m.state.reads w.size gate (sound.image honest).are_bytes (shown_far honest)

  -- the records before the gate are there
  pub before_gate : (span : Span) → IsNext gate w.size (Record span) → IsLong m.reads (size h)
  before_gate span next = λ file told. (let long = at.long file told in let place = at.gate_is in let begins = next.0 in let ends = next.1 in omega arith)

  pub at_end : (n : Meaning) → IsSound m → Looked m n → Kept m n → gate < w.size → (IsTrue m.honest → step_at m.state.reads gate ≡ Closed) → IsRead n header h
  at_end n sound looked kept inside closed = record {
    limits = at.limits;
    legal = at.legal;
    stored_is = at.stored_is;
    long = kept.no_shorter (size h) (λ file is. (let long = at.long file is in let place = at.gate_is in omega arith));
    opens_is = λ honest. (
        let was = sym kept.honest ∙ honest in
        let r = at.reaches was in
        ap (λ d. opens d.reads) (looked was) ∙ r.opens_is ∙ closed_gate m.state.reads r.count header h gate (drop gate m.state.reads) (closed was));
  }

  pub damaged_gate : (place : ℕ) → IsTrue m.honest → place ≡ gate → step_at m.state.reads gate ≡ Bad place → opens m.state.reads ≡ Err (model.Damaged place)
  damaged_gate place honest same is =
      let r = at.reaches honest in
      r.opens_is ∙ bad_gate m.state.reads r.count header h gate (drop gate m.state.reads) place is ∙ ap (λ k. Err (model.Damaged k)) (sym same)

  pub damaged_record : (span : Span) → IsTrue m.honest → step_at m.state.reads gate ≡ Record span → next_entry m.state.reads header h (payload_at m.state.reads span) ≡ None → opens m.state.reads ≡ Err (model.Damaged gate)
  damaged_record span honest is none = let r = at.reaches honest in r.opens_is ∙ refused_record m.state.reads r.count header h gate span is none

  -- a payload that is too long isn't one that may come next
  pub damaged_length : (span : Span) → IsTrue m.honest → IsNext gate w.size (Record span) → step_at m.state.reads gate ≡ Record span → most_payload < span.length → opens m.state.reads ≡ Err (model.Damaged gate)
  damaged_length span honest next is long =
      damaged_record span honest is (too_long m.state.reads header h (payload_at m.state.reads span) (
      let file = m.state.reads in
      let far = at.far honest in
      let t = length-take span.length (drop span.at file) in
      let d = length-drop span.at file in
      let ends = next.1 in
      omega arith))

  reached : (span : Span) (body : Body) → IsTrue m.honest → IsNext gate w.size (Record span) → step_at m.state.reads gate ≡ Record span → next_entry m.state.reads header h (payload_at m.state.reads span) ≡ Some body → Reaches header (h ++ unnumbered body ∷ []) (span.at + span.length) m.state.reads
  reached span body honest next is some =
      let file = m.state.reads in
      let r = at.reaches honest in
      let far = at.far honest in
      let enough = r.enough in
      let begins = next.0 in
      let ends = next.1 in
      let k = r.count - 1 in
      let count : r.count ≡ suc k = omega arith in
      record {
        count = k;
        enough = omega arith;
        opens_is =
            r.opens_is
            ∙ taken_record file r.count header h gate span is body some
            ∙ ap (λ n. model.records file n header (h ++ unnumbered body ∷ []) (span.at + span.length) (drop (span.at + span.length) file)) count;
      }

  pub entered : (span : Span) (body : Body) (bytes : List ℕ) → IsNext gate w.size (Record span) → (IsTrue m.honest → step_at m.state.reads gate ≡ Record span) → IsHeld w span → bytes ≡ take span.length (drop (span.at - w.from) w.bytes) → ((file : List ℕ) → Holds w file → bytes ≡ payload_at file span)
      → Comes m header h bytes (Some body) → (g : List Entry) → g ≡ h ++ unnumbered body ∷ [] → size g ≡ size h + 5 + length bytes → IsLegal header g → g ≡ stored g → IsAt m header g (span.at + span.length) w
  entered span body bytes next is held bytes_are shown some g more sum legal stored_is =
      let t = length-take span.length (drop (span.at - w.from) w.bytes) in
      let d = length-drop (span.at - w.from) w.bytes in
      let b = ap (λ xs. length xs) bytes_are in
      let begins = held.begins in
      let ends = held.ends in
      let long : length bytes ≡ span.length = omega arith in
      let place = at.gate_is in
      let at_place = next.0 in
      record {
        limits = at.limits;
        legal = legal;
        stored_is = stored_is;
        gate_is = omega arith;
        long = at.long;
        far = at.far;
        holds = at.holds;
        reaches = λ honest. subst (λ es. Reaches header es (span.at + span.length) m.state.reads) (sym more)
            (reached span body honest next (is honest) (ap (λ p. next_entry m.state.reads header h p) (sym (shown m.state.reads (at.holds honest))) ∙ some m.state.reads (λ _. (honest, refl))));
      }

-- ---- the first gate

pub first_gate : (m : Meaning) (header : Header) (h : List Entry) (bytes : ℕ) (w : Window) → IsSound m → IsTrue (is_header header) → h ≡ [] → 17 ≤ bytes → IsLong m.reads bytes → (IsTrue m.honest → bytes ≡ length m.state.reads) → (IsTrue m.honest → IsHeaded header m.state.reads)
    → w ≡ record { bytes = []; from = 0; gate = 16; size = min bytes MOST_READ } → IsAt m header h w.gate w
first_gate m header h bytes w sound good none some long whole headed is =
    subst (λ v. IsAt m header h v.gate v) (sym is) (subst (λ es. IsAt m header es 16 (record { bytes = []; from = 0; gate = 16; size = min bytes MOST_READ })) (sym none) (record {
      limits = good;
      legal = tt;
      stored_is = refl;
      gate_is = refl;
      long = λ file told. (let l = long file told in omega arith);
      far = λ honest. ap (λ n. min n MOST_READ) (whole honest);
      holds = λ honest. refl;
      reaches = λ honest. (
          let file = m.state.reads in
          let same = whole honest in
          let k = length file - 1 in
          let count : length file ≡ suc k = omega arith in
          let head = headed honest in
          record {
            count = k;
            enough = omega arith;
            opens_is = head.opens_is ∙ ap (λ n. model.records file n header [] 16 (drop 16 file)) count;
          });
    }))
