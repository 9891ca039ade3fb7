-- The whole that is judged of what was read, and where none is.
use Rattle.std.proofs.Common.{◌≡◌, ℕ, zero, suc, ◌/◌, ◌%◌, ◌≤◌, Bool, true, false, ◌&&◌, List, [], length, drop, refl, sym, ap, subst, ◌∙◌, inl, inr, arith}
use Rattle.std.specs.Prelude.{Result, Ok, Err, IsTrue, ◌==◌, nat_le}
use Rattle.std.specs.List.{concat}
use Rattle.std.proofs.lemmas.Bool.{and_parts, leb-true}
use Rattle.byte_fields.specs.Bytes.{Id, IsBytes, are_bytes}
use Rattle.byte_fields.proofs.FieldLemmas.{all_bytes}
use Rattle.changeset_model.proofs.Accepting.{IsBytes-drop}
use Rattle.disk_model.specs.Meaning.{Meaning}
use Rattle.history_model.specs.History.{Entry, is_down}
use Rattle.history_model.specs.Journal.{Header}
use Rattle.reply_model.specs.Reply.{Ask, PutWhole, Refusal as ModelRefusal, Down, ids_in, split_ids, are_pieces, parts_of, refuse_if, ◌>>=◌, judge}
use Rattle.reply_model.proofs.Opened.{parts_held, parts_len}
use Rattle.repo_calls.specs.declared.refusal.Refusal.{Refusal}
use Rattle.repo_calls.specs.Refusing.{IsRefusal}
use Rattle.repo_machine.specs.declared.found.Joined.{Joined}
use Rattle.repo_machine.specs.Entering.{IsJudgedHere, Judges}
use Rattle.repo_machine.specs.Held.{Room}
use Rattle.repo_machine.specs.Judged.{JudgedChange}
use Rattle.repo_machine.specs.Wholes.{IsJoined, IsWholeOf, pieces_judged}
use Rattle.recovery.specs.ReplayFaults.{refusal_fault}
use Rattle.recovery.specs.declared.replay_fault.ReplayFault.{ReplayFault}
use Rattle.recovery.specs.declared.replay_fault.ReplayFault.TheVariants.{BadPayload, DiskFault, Memory}
use Rattle.recovery.specs.Joining.{held_of, IsRead, JoinsParts, EntersWhole}
use Rattle.recovery.proofs.Asked.{not_pieces, refused_asked}
use Rattle.recovery.proofs.WholePayloads.{IsWholePayload}

-- ---- what is refused before it is read

refused_first : {A B : Type 0} (down : Bool) (parts : Result A ModelRefusal) (f : A → Result B ModelRefusal) (r : ModelRefusal) → (refuse_if down Down >>= λ _. parts) ≡ Err r → (refuse_if down Down >>= λ _. parts >>= f) ≡ Err r
refused_first true parts f r e = ap (λ r. r >>= f) e
refused_first false parts f r e = ap (λ r. r >>= f) e

refused_parts : (header : Header) (h : List Entry) (body : List ℕ) (pieces : List (List ℕ)) (e : Refusal) → IsRefusal (pieces_judged header h body) e → IsRefusal (judge header h (PutWhole body pieces)) e
refused_parts header h body pieces e (inl memory) = inl memory
refused_parts header h body pieces e (inr (r, is, same)) = inr (r, refused_first (is_down h) (parts_of header h body) _ r is, same)

pub refused_whole : (m : Meaning) (header : Header) (h : List Entry) (bytes body : List ℕ) (e : Refusal) (after : List Entry) → IsRefusal (pieces_judged header h body) e → after ≡ h → EntersWhole m header h bytes body (Err (refusal_fault e)) after
refused_whole m header h bytes body e after refused same =
    let pieces = held_of m h (ids_in body) in
    (pieces, λ _. refl, refused_asked header h bytes (PutWhole body pieces) (PutWhole body pieces) e after refl (refused_parts header h body pieces e refused) same)

-- ---- which parts are read

allowed_by : (down : Bool) (parts : Result (List Id) ModelRefusal) (ids : List Id) → (refuse_if down Down >>= λ _. parts) ≡ Ok ids → parts ≡ Ok ids
allowed_by true parts ids e = absurd cc
allowed_by false parts ids e = e

pub allowed : (header : Header) (h : List Entry) (body : List ℕ) (ids : List Id) → pieces_judged header h body ≡ Ok ids → parts_of header h body ≡ Ok ids
allowed header h body ids e = allowed_by (is_down h) (parts_of header h body) ids e

-- what was read is joined
pub record IsReadWhole (m : Meaning) (header : Header) (h : List Entry) (body : List ℕ) (whole : Joined) : Type 0 where
  pub pieces : List (List ℕ)
  pub read : IsRead m h (ids_in body) pieces
  pub is_whole : IsWholeOf header h body pieces whole

module _ (header : Header) (h : List Entry) (body : List ℕ) (ids : List Id) (asked : parts_of header h body ≡ Ok ids) where
  ids_are : ids_in body ≡ ids
  ids_are = (parts_held header h body ids asked).0

  split_length : (n : ℕ) (bytes : List ℕ) → length (split_ids n bytes) ≡ n
  split_length zero bytes = refl
  split_length (suc n) bytes = ap suc (split_length n _)

  record HasParts : Type 0 where
    some : 1 ≤ length body / 32
    few : length body / 32 ≤ 64

  has_parts : HasParts
  has_parts =
      let most = and_parts ((length body % 32 == 0) && nat_le 32 (length body)) (nat_le (length body) 2048) (parts_len header h body ids asked) in
      let none = and_parts (length body % 32 == 0) (nat_le 32 (length body)) most.0 in
      let least : 32 ≤ length body = leb-true 32 (length body) none.1 in
      let le : length body ≤ 2048 = leb-true (length body) 2048 most.1 in
      record { some = omega arith; few = omega arith }

  pub few_ids : length ids ≤ 64
  few_ids =
      let count = ap length (sym ids_are) ∙ split_length (length body / 32) body in
      let few = has_parts.few in
      omega arith

  none_read : are_pieces h (ids_in body) [] ≡ false
  none_read = by (length body / 32) has_parts.some
    where
      by : (n : ℕ) → 1 ≤ n → are_pieces h (split_ids n body) [] ≡ false
      by zero some = absurd (omega arith)
      by (suc n) some = refl

  -- ---- what isn't theirs

  other_whole : (m : Meaning) (bytes : List ℕ) (honest : Bool) → m.honest ≡ honest → (IsTrue m.honest → are_pieces h ids (held_of m h ids) ≡ false) → (after : List Entry) → after ≡ h → EntersWhole m header h bytes body (Err BadPayload) after
  other_whole m bytes true is other after same =
      let pieces = held_of m h (ids_in body) in
      let differ = subst (λ xs. are_pieces h xs (held_of m h xs) ≡ false) (sym ids_are) (other is) in
      (pieces, λ _. refl, (not_pieces header h body pieces bytes differ, same))
  other_whole m bytes false is other after same = ([], λ honest. absurd (let no : false ≡ true = sym is ∙ honest in cc), (not_pieces header h body [] bytes none_read, same))

  pub not_joined : (m : Meaning) (bytes : List ℕ) (fault : ReplayFault) (after : List Entry) → JoinsParts m h ids (Err fault) → after ≡ h → EntersWhole m header h bytes body (Err fault) after
  not_joined m bytes BadPayload after other same = other_whole m bytes m.honest refl other after same
  not_joined m bytes DiskFault after other same = (held_of m h (ids_in body), λ _. refl, same)
  not_joined m bytes Memory after other same = (held_of m h (ids_in body), λ _. refl, same)

  -- ---- what is joined

  pub is_read_whole : (m : Meaning) (whole : Joined) → are_bytes body ≡ true → JoinsParts m h ids (Ok whole) → IsReadWhole m header h body whole
  is_read_whole m whole fits (same, (pieces, read, joined)) = record {
    pieces = pieces;
    read = subst (λ xs. IsRead m h xs pieces) (sym ids_are) read;
    is_whole = record { bytes = fits; asked = asked ∙ ap (λ xs. Ok xs) (sym same); joined = subst (λ xs. IsJoined h xs pieces whole.id whole.length) (sym same) joined };
  }

-- ---- the parts that a payload has

pub record AsksFor (header : Header) (h : List Entry) (ids found : List Id) : Type 0 where
  pub found_are : found ≡ ids
  pub asked : parts_of header h (concat ids) ≡ Ok ids
  pub few : length found ≤ 64
  pub bytes : are_bytes (concat ids) ≡ true

pub asks_for : (header : Header) (h : List Entry) (payload : List ℕ) (ids : List Id) (body : List ℕ) (found : List Id) → IsWholePayload payload ids → IsBytes payload → body ≡ drop 43 payload → pieces_judged header h body ≡ Ok found → AsksFor header h ids found
asks_for header h payload ids body found w fits is judged =
    let asked = allowed header h (concat ids) found (subst (λ b. pieces_judged header h b ≡ Ok found) (is ∙ w.body_is) judged) in
    let same : found ≡ ids = sym (ids_are header h (concat ids) found asked) ∙ w.ids_are in
    record {
      found_are = same;
      asked = asked ∙ ap (λ xs. Ok xs) same;
      few = few_ids header h (concat ids) found asked;
      bytes = subst (λ b. are_bytes b ≡ true) w.body_is (all_bytes (drop 43 payload) (IsBytes-drop 43 payload fits));
    }

pub judged_here : (header old : Header) (h g : List Entry) (room : Room) (who : ℕ) (ask : Ask) (judged : JudgedChange) → header ≡ old → h ≡ g → Judges old g room who ask judged → IsJudgedHere header h judged
judged_here header old h g room who ask judged same is j =
    let here : IsJudgedHere old g judged = record { ask = ask; is_judged = j.is_judged; enters = j.enters } in
    subst (λ hd. IsJudgedHere hd h judged) (sym same) (subst (λ es. IsJudgedHere old es judged) (sym is) here)
