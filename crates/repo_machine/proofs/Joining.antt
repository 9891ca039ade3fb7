-- Contents that are joined: what is judged of them before they are read, and of the whole.
--     ids_push      one id more of those that stand one behind another
--     pieces_down, bad_parts, old_format, pieces_as      what is refused before they are read, and else those that the table has
--     whole_asked, whole_judged      the whole may be asked, and so it is judged
--     few_parts, whole_short      its record is short
use Rattle.std.proofs.Common.{◌≡◌, ℕ, suc, ◌+◌, ◌/◌, ◌%◌, ◌≤◌, Bool, true, false, cond, ◌&&◌, inr, List, [], ◌∷◌, ◌++◌, length, length-append, take, drop, refl, sym, ap, subst, ◌∙◌, arith}
use Rattle.std.specs.Prelude.{Option, None, Some, is_some, not, nat_le, ◌==◌, Result, Ok, Err, IsErrAnd}
use Rattle.std.specs.Int.{w16, w64, to_be_bytes}
use Rattle.std.specs.List.{concat}
use Rattle.std.proofs.lemmas.Bool.{and_parts, eqb-true, leb-true}
use Rattle.std.proofs.lemmas.List.{append_assoc, length-drop}
use Rattle.sha2.specs.Sha256.{sha256}
use Rattle.byte_fields.specs.Bytes.{Id, are_bytes}
use Rattle.changeset_model.specs.Version.{is_second}
use Rattle.history_model.specs.History.{Whole, Entry, Known, is_down, content_len, is_whole, whole_parts}
use Rattle.history_model.specs.Journal.{Header, payload_len}
use Rattle.history_model.specs.Repository.{Repository}
use Rattle.reply_model.specs.Reply as reply
use Rattle.reply_model.specs.Reply.{◌>>=◌, refuse_if, refuse_some, PutWhole, WholePut, Judged, split_ids, ids_in, is_ask, is_parts_len, parts_of, unchanged, entered, judge}
use Rattle.reply_model.proofs.Joining.{pieces_asked}
use Rattle.reply_model.proofs.Opened.{parts_held, parts_len}
use Rattle.opening_laws.proofs.Pieces.{ids_good}
use Rattle.opening_laws.proofs.Rules.{digest_is}
use Rattle.content_table.specs.declared.table.ContentTable.{ContentTable}
use Rattle.content_table.specs.Table.{lengths, joined, is_whole_in, pieces_checked}
use Rattle.repo_calls.specs.declared.refusal.Refusal.{Refusal}
use Rattle.repo_calls.specs.declared.refusal.Refusal.TheVariants as refusals
use Rattle.repo_calls.specs.Refusing.{IsRefusal, Gives}
use Rattle.repo_machine.specs.declared.found.Joined.{Joined}
use Rattle.repo_machine.specs.Indexes.{AreIndexes, joined_in, AreJoined}
use Rattle.repo_machine.specs.Wholes.{pieces_judged, IsWholeOf}
use Rattle.repo_machine.proofs.Judging.{judged_up}

-- ---- ids one behind another

next_id : (bytes : List ℕ) → 32 ≤ length bytes → ids_in bytes ≡ take 32 bytes ∷ ids_in (drop 32 bytes)
next_id bytes long =
    let back = length-drop 32 bytes in
    let more : length bytes / 32 ≡ suc (length (drop 32 bytes) / 32) = omega arith in
    ap (λ n. split_ids n bytes) more

pub ids_push : (bytes : List ℕ) (items after all : List Id) (id : Id) (rest : List ℕ) → items ++ ids_in bytes ≡ all → 32 ≤ length bytes → id ≡ take 32 bytes → rest ≡ drop 32 bytes → after ≡ items ++ id ∷ [] → after ++ ids_in rest ≡ all
ids_push bytes items after all id rest so_far long id_is rest_is grows =
    (λ i. grows i ++ ids_in (rest_is i)) ∙ append_assoc items (id ∷ []) (ids_in (drop 32 bytes))
    ∙ (λ i. items ++ id_is i ∷ ids_in (drop 32 bytes)) ∙ ap (λ xs. items ++ xs) (sym (next_id bytes long)) ∙ so_far

-- ---- before they are read

abbrev of_version : Header → List Entry → List ℕ → Bool → Result (List Id) reply.Refusal
of_version header h body second = refuse_if (not second) reply.OldFormat >>= λ _. pieces_checked (content_len h) (is_whole h) (ids_in body)

abbrev of_length : Header → List Entry → List ℕ → Bool → Result (List Id) reply.Refusal
of_length header h body good = refuse_if (not good) (reply.BadParts (length body)) >>= λ _. of_version header h body (is_second header.version)

abbrev of_up : Header → List Entry → List ℕ → Bool → Result (List Id) reply.Refusal
of_up header h body down = refuse_if down reply.Down >>= λ _. of_length header h body (is_parts_len (length body))

module _ (header : Header) (h : List Entry) (body : List ℕ) where
  pub pieces_down : (e : Refusal) → e ≡ refusals.Down → is_down h ≡ true → IsRefusal (pieces_judged header h body) e
  pieces_down e is down = subst (IsRefusal (pieces_judged header h body)) (sym is) (inr (reply.Down, ap (of_up header h body) down, refl))

  module _ (up : is_down h ≡ false) where
    pub bad_parts : is_parts_len (length body) ≡ false → IsRefusal (pieces_judged header h body) (refusals.BadParts (length body))
    bad_parts bad = inr (reply.BadParts (length body), ap (of_up header h body) up ∙ ap (of_length header h body) bad, refl)

    module _ (good : is_parts_len (length body) ≡ true) where
      pub old_format : is_second header.version ≡ false → IsRefusal (pieces_judged header h body) refusals.OldFormat
      old_format first = inr (reply.OldFormat, ap (of_up header h body) up ∙ ap (of_length header h body) good ∙ ap (of_version header h body) first, refl)

      pieces_are : is_second header.version ≡ true → pieces_judged header h body ≡ pieces_checked (content_len h) (is_whole h) (ids_in body)
      pieces_are second = ap (of_up header h body) up ∙ ap (of_length header h body) good ∙ ap (of_version header h body) second

-- ---- as the machine has them

some_by : (b : Bool) (parts : List Id) → is_some (cond b (Some parts) None) ≡ b
some_by true parts = refl
some_by false parts = refl

pub gives_passed : {X : Type 0} (view : X → List Id) (wanted : Result (List Id) reply.Refusal) (result : Result X Refusal) (e : Refusal) → IsErrAnd result (λ x. x ≡ e) → IsRefusal wanted e → Gives view wanted result
gives_passed view wanted (Ok x) e err refuses = absurd err
gives_passed view wanted (Err x) e err refuses = subst (IsRefusal wanted) (sym err) refuses

gives_same : {X : Type 0} (view : X → List Id) (a b : Result (List Id) reply.Refusal) (r : Result X Refusal) → a ≡ b → Gives view a r → Gives view b r
gives_same view a b r same g = subst (λ w. Gives view w r) same g

module _ {header : Header} {h : List Entry} {ks : List Known} {heads : List ℕ → Option Id} (t : ContentTable) {size : ℕ} {down : Bool} (k : AreIndexes header h ks heads (lengths t) size down) (joins : AreJoined h (joined t)) (r : Repository) (is : ◌≡◌ {A = Repository} (record { header = header; history = h }) r) where
  pub lengths_as : (x : Id) → lengths t x ≡ content_len r.history x
  lengths_as x = k.lengths_are x ∙ ap (λ r. content_len r.history x) is

  joins_as : (x : Id) → joined t x ≡ joined_in r.history x
  joins_as x = joins x ∙ ap (λ r. joined_in r.history x) is

  wholes_as : (x : Id) → is_whole_in t x ≡ is_whole r.history x
  wholes_as x = ap is_some (joins_as x) ∙ some_by (is_whole r.history x) (whole_parts r.history x)

  pub pieces_as : {X : Type 0} (view : X → List Id) (body : List ℕ) (ids : List Id) (result : Result X Refusal) → is_down r.history ≡ false → is_parts_len (length body) ≡ true → is_second r.header.version ≡ true → ids ≡ ids_in body → Gives view (pieces_checked (lengths t) (is_whole_in t) ids) result → Gives view (pieces_judged r.header r.history body) result
  pieces_as view body ids result up good second ids_are gives =
      gives_same view _ _ result
      ((λ i. pieces_checked (λ x. lengths_as x i) (λ x. wholes_as x i) (ids_are i)) ∙ sym (pieces_are r.header r.history body up good second)) gives

-- ---- the whole

-- a mark, the id, the length, the count of the parts, and these
whole_long : (x : Id) (n : ℕ) (parts : List Id) → payload_len (Whole x n parts) ≡ 11 + length x + length (concat parts)
whole_long x n parts =
    let count = to_be_bytes w16 (length parts) in
    let total = to_be_bytes w64 n in
    let a = length-append x (total ++ (count ++ concat parts)) in
    let b = length-append total (count ++ concat parts) in
    let c = length-append count (concat parts) in
    omega arith

abbrev joined_by : Header → List Entry → Id → ℕ → List Id → Bool → Result Judged reply.Refusal
joined_by header h x n parts known = cond known (unchanged (WholePut x n)) (entered header h (WholePut x n) (Whole x n parts))

module _ (header : Header) (h : List Entry) (body : List ℕ) (pieces : List (List ℕ)) (whole : Joined) (w : IsWholeOf header h body pieces whole) where
  pub whole_asked : is_ask h (PutWhole body pieces) ≡ true
  whole_asked = pieces_asked header h body whole.parts.items pieces w.bytes w.asked w.joined.are

  pub whole_judged : is_down h ≡ false → (known : Bool) → is_some (content_len h whole.id) ≡ known → judge header h (PutWhole body pieces) ≡ joined_by header h whole.id whole.length whole.parts.items known
  whole_judged up known is =
      judged_up header h (PutWhole body pieces) up
      ∙ ap (λ p. p >>= λ parts. joined_by header h (sha256 (concat pieces)) (length (concat pieces)) parts (is_some (content_len h (sha256 (concat pieces))))) w.asked
      ∙ (λ i. joined_by header h (sym w.joined.id_is i) (sym w.joined.length_is i) whole.parts.items (is_some (content_len h (sym w.joined.id_is i))))
      ∙ ap (joined_by header h whole.id whole.length whole.parts.items) is

  most_bytes : length body ≤ 2048
  most_bytes =
      let good = parts_len header h body whole.parts.items w.asked in
      leb-true (length body) 2048 (and_parts ((length body % 32 == 0) && nat_le 32 (length body)) (nat_le (length body) 2048) good).1

  parts_are : ids_in body ≡ whole.parts.items
  parts_are = (parts_held header h body whole.parts.items w.asked).0

  pub few_parts : length whole.parts.items ≤ 64
  few_parts = subst (λ xs. length xs ≤ 64) parts_are (ids_good body w.bytes (parts_len header h body whole.parts.items w.asked)).few

  id_length : length whole.id ≡ 32
  id_length = ap (λ (x : Id). length x) w.joined.id_is ∙ eqb-true (length (sha256 (concat pieces))) 32 (and_parts (length (sha256 (concat pieces)) == 32) (are_bytes (sha256 (concat pieces))) (digest_is (concat pieces))).0

  pub whole_short : payload_len (Whole whole.id whole.length whole.parts.items) ≤ 16_777_216
  whole_short =
      let back : concat whole.parts.items ≡ body = subst (λ xs. concat xs ≡ body) parts_are (ids_good body w.bytes (parts_len header h body whole.parts.items w.asked)).back in
      let long : length (concat whole.parts.items) ≡ length body = ap (λ (bs : List ℕ). length bs) back in
      let most = most_bytes in
      let id = id_length in
      let all = whole_long whole.id whole.length whole.parts.items in
      omega arith
