-- The payload of a whole: its parts are the ids behind its mark, id, length and count.
use Rattle.std.proofs.Common.{◌≡◌, ℕ, zero, suc, ◌*◌, ◌/◌, ◌≤◌, Bool, true, false, cond, List, [], ◌∷◌, ◌++◌, length, take, drop, refl, sym, ap, subst, ◌∙◌, arith, length-append}
use Rattle.std.specs.Prelude.{None, Some, Result, Ok, Err, ◌||◌, ◌==◌, nat_le, nat_lt}
use Rattle.std.specs.List.{AllByRecursion, concat}
use Rattle.std.specs.Option.{option_map_or}
use Rattle.std.specs.Int.{w8, w16, w64, to_be_bytes}
use Rattle.std.proofs.Math.Seq.{take-append_seam, drop-append_seam}
use Rattle.std.proofs.lemmas.Bool.{leb-true}
use Rattle.std.proofs.lemmas.List.{append_assoc, length-take}
use Rattle.byte_fields.specs.Bytes.{Id}
use Rattle.byte_fields.proofs.FieldLemmas.{reads_number, spelled_8}
use Rattle.byte_fields.specs.Reading.{value, and_then, ◌>>=◌, number, any, id, times, read}
use Rattle.changeset_model.proofs.Accepting.{bind_ok, ok_is, value_ok, whole_ok}
use Rattle.history_model.specs.History.{Body, Whole}
use Rattle.history_model.specs.Journal.{payload, most_payload}
use Rattle.history_model.specs.Payload.{body, by_mark, payload_body}
use Rattle.history_model.specs.Payload as reading
use Rattle.reply_model.specs.Reply.{split_ids, ids_in}

abbrev AreLong : List Id → Type 0
AreLong ids = AllByRecursion (λ x. length x ≡ 32) ids

-- ---- ids that are read

abbrev ReadId : Type 0
ReadId = Result (Id × List ℕ) ℕ

id_by : (bytes : List ℕ) (x : Id) (rest : List ℕ) (enough : Bool) → nat_le 32 (length bytes) ≡ enough → ◌≡◌ {A = ReadId} (option_map_or (λ x. Ok (x, drop 32 bytes)) (cond enough (Some (take 32 bytes)) None) (Err (length bytes))) (Ok (x, rest)) → length x ≡ 32
id_by bytes x rest false less e = absurd cc
id_by bytes x rest true less e =
    let is = ap (λ (p : Id × List ℕ). length p.0) (ok_is (take 32 bytes, drop 32 bytes) (x, rest) e) in
    let front = length-take 32 bytes in
    let most = leb-true 32 (length bytes) less in
    omega arith

id_long : (bytes : List ℕ) (x : Id) (rest : List ℕ) → id bytes ≡ Ok (x, rest) → length x ≡ 32
id_long bytes x rest e = id_by bytes x rest (nat_le 32 (length bytes)) refl e

ids_long : (count : ℕ) (bytes : List ℕ) (ids : List Id) (rest : List ℕ) → times count id bytes ≡ Ok (ids, rest) → AreLong ids
ids_long zero bytes ids rest e = subst AreLong (value_ok [] ids bytes rest e).0 tt
ids_long (suc count) bytes ids rest e =
    let s0 = bind_ok (id bytes) (λ x. times count id >>= λ xs. value (x ∷ xs)) (ids, rest) e in
    let s1 = bind_ok (times count id s0.0.1) (λ xs. value (s0.0.0 ∷ xs)) (ids, rest) s0.2 in
    let last = value_ok (s0.0.0 ∷ s1.0.0) ids s1.0.1 rest s1.2 in
    subst AreLong last.0 (id_long bytes s0.0.0 s0.0.1 s0.1, ids_long count s0.0.1 s1.0.0 s1.0.1 s1.1)

-- ---- ids in a row

concat_long : (ids : List Id) → AreLong ids → length (concat ids) ≡ 32 * length ids
concat_long [] long = refl
concat_long (x ∷ ids) long =
    let rest = concat_long ids long.1 in
    let both = length-append x (concat ids) in
    let one = long.0 in
    omega arith

split_concat : (ids : List Id) → AreLong ids → split_ids (length ids) (concat ids) ≡ ids
split_concat [] long = refl
split_concat (x ∷ ids) long =
    let front : take 32 (x ++ concat ids) ≡ x = ap (λ n. take n (x ++ concat ids)) (sym long.0) ∙ take-append_seam x (concat ids) in
    let back : drop 32 (x ++ concat ids) ≡ concat ids = ap (λ n. drop n (x ++ concat ids)) (sym long.0) ∙ drop-append_seam x (concat ids) in
    (λ i. front i ∷ split_ids (length ids) (back i)) ∙ ap (λ (xs : List Id). x ∷ xs) (split_concat ids long.1)

ids_back : (ids : List Id) → AreLong ids → ids_in (concat ids) ≡ ids
ids_back ids long = ap (λ n. split_ids n (concat ids)) (let len = concat_long ids long in let k : length (concat ids) / 32 ≡ length ids = omega arith in k) ∙ split_concat ids long

-- ---- the payload

same_parts : (x y : Id) (n k : ℕ) (ids others : List Id) → Whole x n ids ≡ Whole y k others → (x ≡ y) × (ids ≡ others)
same_parts x y n k ids others e = (cc, cc)

short : (long : Bool) (r : Result Body ℕ) (b : Body) → cond long (Err most_payload) r ≡ Ok b → r ≡ Ok b
short true r b e = absurd cc
short false r b e = e

abbrev is_mark : ℕ → Bool
is_mark n = n == 0x42 || n == 0x43 || n == 0x4D || n == 0x4C || n == 0x4E || n == 0x57 || n == 0x41

marked : (rest : List ℕ) → body (0x57 ∷ rest) ≡ reading.whole rest
marked rest = ap (λ r. and_then r by_mark) (reads_number w8 is_mark (0x57 ∷ []) 0x57 (spelled_8 0x57) refl rest)

pub record IsWholePayload (bytes : List ℕ) (ids : List Id) : Type 0 where
  pub long : 43 ≤ length bytes
  pub body_is : drop 43 bytes ≡ concat ids
  pub ids_are : ids_in (concat ids) ≡ ids

by_fields : (rest : List ℕ) (x : Id) (n : ℕ) (ids : List Id) → reading.whole rest ≡ Ok (Whole x n ids, []) → (length x ≡ 32) × AreLong ids
by_fields rest x n ids e =
    let s0 = bind_ok (id rest) (λ x. number w64 any >>= λ n. number w16 any >>= λ count. times count id >>= λ ids. value (Whole x n ids)) (Whole x n ids, []) e in
    let s1 = bind_ok (number w64 any s0.0.1) (λ n. number w16 any >>= λ count. times count id >>= λ ids. value (Whole s0.0.0 n ids)) (Whole x n ids, []) s0.2 in
    let s2 = bind_ok (number w16 any s1.0.1) (λ count. times count id >>= λ ids. value (Whole s0.0.0 s1.0.0 ids)) (Whole x n ids, []) s1.2 in
    let s3 = bind_ok (times s2.0.0 id s2.0.1) (λ ids. value (Whole s0.0.0 s1.0.0 ids)) (Whole x n ids, []) s2.2 in
    let last = same_parts s0.0.0 x s1.0.0 n s3.0.0 ids (value_ok (Whole s0.0.0 s1.0.0 s3.0.0) (Whole x n ids) s3.0.1 [] s3.2).0 in
    (subst (λ y. length y ≡ 32) {x = s0.0.0} last.0 (id_long rest s0.0.0 s0.0.1 s0.1), subst AreLong {x = s3.0.0} last.1 (ids_long s2.0.0 s2.0.1 s3.0.0 s3.0.1 s3.1))

pub whole_payload : (bytes : List ℕ) (x : Id) (n : ℕ) (ids : List Id) → payload_body bytes ≡ Ok (Whole x n ids) → bytes ≡ payload (Whole x n ids) [] → IsWholePayload bytes ids
whole_payload bytes x n ids decoded spelled =
    let count = to_be_bytes w16 (length ids) in
    let front = 0x57 ∷ (x ++ (to_be_bytes w64 n ++ count)) in
    let rest = x ++ (to_be_bytes w64 n ++ (count ++ concat ids)) in
    let there : payload_body (0x57 ∷ rest) ≡ Ok (Whole x n ids) = ap payload_body (sym spelled) ∙ decoded in
    let facts = by_fields rest x n ids (sym (marked rest) ∙ whole_ok (length (0x57 ∷ rest)) (body (0x57 ∷ rest)) (Whole x n ids) (short (nat_lt most_payload (length (0x57 ∷ rest))) (read body (0x57 ∷ rest)) (Whole x n ids) there)) in
    let len : length front ≡ 43 = (let both = length-append x (to_be_bytes w64 n ++ count) in let one = facts.0 in omega arith) in
    let parts = concat ids in
    let size = to_be_bytes w64 n in
    let same : bytes ≡ front ++ parts = spelled ∙ ap (λ (t : List ℕ). 0x57 ∷ (x ++ t)) (sym (append_assoc size count parts)) ∙ ap (λ (t : List ℕ). 0x57 ∷ t) (sym (append_assoc x (size ++ count) parts)) in
    record {
      long = (let both = length-append front (concat ids) in let all = ap length same in omega arith);
      body_is = ap (drop 43) same ∙ ap (λ k. drop k (front ++ concat ids)) (sym len) ∙ drop-append_seam front (concat ids);
      ids_are = ids_back ids facts.1;
    }
