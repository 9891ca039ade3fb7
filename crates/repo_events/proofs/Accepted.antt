-- What is read is a payload of the entry.
--     IsAccepted b bytes      the bytes are a payload of the entry, which has no more changesets and parts than their counts can tell
use Rattle.std.proofs.Common.{◌≡◌, ℕ, zero, suc, ◌%◌, ◌^◌, ◌<◌, Bool, true, false, cond, List, [], ◌∷◌, ◌++◌, length, take, drop, map, refl, sym, ap, subst, ◌∙◌, arith, Option, Some, None, Result, Ok, Err}
use Rattle.std.specs.Prelude.{nat_lt, nat_le, ◌==◌, ◌||◌, if◌then◌else◌}
use Rattle.std.specs.List.{concat}
use Rattle.std.specs.Option.{option_map_or}
use Rattle.std.specs.Result.{result_ok}
use Rattle.std.specs.Int.{w8, w16, w32, w64, to_be_bytes}
use Rattle.std.proofs.Math.Seq.{take-append_seam, drop-append_seam}
use Rattle.std.proofs.lemmas.Bool.{ltb-true, eqb-true}
use Rattle.std.proofs.lemmas.List.{take_all, append-nil, append_assoc}
use Rattle.std.proofs.lemmas.Nat.{be_bytes_2}
use Rattle.sha2.specs.Sha256.{sha256}
use Rattle.byte_fields.specs.Bytes.{Id, IsBytes, sized}
use Rattle.byte_fields.specs.Reading.{and_then, value, ◌>>=◌, field, number, keeping, as_one, times, read, any, id}
use Rattle.changeset_model.specs.Changeset.{Changeset, spelling}
use Rattle.changeset_model.specs.Decoding.{decoded}
use Rattle.changeset_model.proofs.Accepting.{Took, took_then, took_end, bind_ok, ok_is, keeping_ok, IsWide, wide32, wide64, number_ok, byte_ok, with_len_ok, id_ok, value_ok, whole_ok, IsBytes-drop, IsBytes-take, accepted_exactly}
use Rattle.history_model.specs.Bookmark.{is_name}
use Rattle.history_model.specs.History.{Body, Content, Whole, Change, Book, Land, Policy, changesets_in}
use Rattle.history_model.specs.Journal.{optional_id, landing_mark, moment_bytes, wrapped, IsPayload, most_payload}
use Rattle.history_model.specs.Payload.{bookmark_name, flagged, optional, encoded, book, no_moment, a_moment, landing, whole, policy, content, upload, with_caller, wrapper, by_mark, body, payload_body}
use Rattle.repo_events.specs.Entries.{caller_bytes, moment_field, parts_in}
use Rattle.byte_fields.proofs.Booleans.{ok_some as result_ok_some}

abbrev pub IsAccepted : Body → List ℕ → Type 0
IsAccepted b bytes = IsPayload b bytes × (length (changesets_in b) < 2 ^ 16) × (length (parts_in b) < 2 ^ 16)

-- ---- fields

wide8 : IsWide w8 (2 ^ 8)
wide8 [] len fits = absurd (omega arith)
wide8 (b ∷ []) len fits = ((λ i. same i ∷ []), omega (arith, fits 0))
  where
    same : b % 256 ≡ b
    same = omega (arith, fits 0)
wide8 (b ∷ c ∷ bs) len fits = absurd (omega arith)

wide16 : IsWide w16 (2 ^ 16)
wide16 bytes len fits = (be_bytes_2 bytes _ len fits refl, omega (arith, fits 0, fits 1))

name_ok : (bytes x rest : List ℕ) → IsBytes bytes → bookmark_name bytes ≡ Ok (x, rest) → Took bytes (sized w8 x) rest
name_ok bytes x rest fits e =
    let r = with_len_ok w8 (2 ^ 8) wide8 any (keeping is_name) bytes x rest fits e in
    subst (λ t. Took bytes (sized w8 t) rest) (keeping_ok is_name r.text x r.seen).1 r.took

as_one_ok : {A : Type 0} (n : ℕ) (o : Result (A × List ℕ) ℕ) (y : A × List ℕ) → as_one n o ≡ Ok y → o ≡ Ok y
as_one_ok n (Ok x) y e = e
as_one_ok n (Err left) y e = absurd (cc)

flagged_ok : (flag : ℕ) (b0 b1 : List ℕ) (x : Option Id) (rest : List ℕ) → nat_lt flag 2 ≡ true → Took b0 (flag ∷ []) b1 → flagged flag b1 ≡ Ok (x, rest) → Took b0 (optional_id x) rest
flagged_ok zero b0 b1 x rest h took e =
    let last = value_ok {A = Option Id} None x b1 rest e in
    subst (λ x. Took b0 (optional_id x) rest) last.0 (subst (Took b0 (0 ∷ [])) last.1 took)
flagged_ok (suc zero) b0 b1 x rest h took e =
    let step = bind_ok (id b1) (λ y. value (Some y)) (x, rest) e in
    let y = step.0.0 in
    let read = id_ok b1 y step.0.1 took.left step.1 in
    let last = value_ok (Some y) x step.0.1 rest step.2 in
    subst (λ x. Took b0 (optional_id x) rest) last.0 (subst (Took b0 (1 ∷ y)) last.1 (took_then b0 (1 ∷ []) b1 y step.0.1 took read.took))
flagged_ok (suc (suc n)) b0 b1 x rest h took e = absurd (let lt = ltb-true (suc (suc n)) 2 h in omega arith)

optional_ok : (bytes : List ℕ) (x : Option Id) (rest : List ℕ) → IsBytes bytes → optional bytes ≡ Ok (x, rest) → Took bytes (optional_id x) rest
optional_ok bytes x rest fits e =
    let whole = as_one_ok (length bytes) (and_then (number w8 (λ n. nat_lt n 2) bytes) flagged) (x, rest) e in
    let step = bind_ok (number w8 (λ n. nat_lt n 2) bytes) flagged (x, rest) whole in
    let flag = byte_ok (λ n. nat_lt n 2) bytes step.0.0 step.0.1 fits step.1 in
    flagged_ok step.0.0 bytes step.0.1 x rest flag.keeps flag.took step.2

IsBytes-front : (a b : List ℕ) → IsBytes (a ++ b) → IsBytes a
IsBytes-front a b h = subst IsBytes (take-append_seam a b) (IsBytes-take (length a) (a ++ b) h)

IsBytes-back : (a b : List ℕ) → IsBytes (a ++ b) → IsBytes b
IsBytes-back a b h = subst IsBytes (drop-append_seam a b) (IsBytes-drop (length a) (a ++ b) h)

spelled : (bytes : List ℕ) (c : Changeset) → IsBytes bytes → result_ok (decoded bytes) ≡ Some c → bytes ≡ spelling c
spelled bytes c fits e = ((accepted_exactly bytes c fits).0 (result_ok_some (decoded bytes) c e)).1.1

encoded_ok : (bytes : List ℕ) (c : Changeset) (rest : List ℕ) → IsBytes bytes → encoded bytes ≡ Ok (c, rest) → Took bytes (sized w32 (spelling c)) rest
encoded_ok bytes c rest fits e =
    let r = with_len_ok w32 (2 ^ 32) wide32 any (λ bytes. result_ok (decoded bytes)) bytes c rest fits e in
    let text_fits = IsBytes-back (to_be_bytes w32 (length r.text)) r.text (IsBytes-front (sized w32 r.text) rest (subst IsBytes r.took.parts fits)) in
    subst (λ t. Took bytes (sized w32 t) rest) (spelled r.text c text_fits r.seen) r.took

abbrev sized_all : List Changeset → List ℕ
sized_all cs = concat (map (λ c. sized w32 (spelling c)) cs)

times_ok : (n : ℕ) (bytes : List ℕ) (cs : List Changeset) (rest : List ℕ) → IsBytes bytes → times n encoded bytes ≡ Ok (cs, rest) → Took bytes (sized_all cs) rest × (length cs ≡ n)
times_ok zero bytes cs rest fits e =
    let last = value_ok {A = List Changeset} [] cs bytes rest e in
    subst (λ cs. Took bytes (sized_all cs) rest × (length cs ≡ 0)) last.0 (subst (Took bytes []) last.1 (took_end bytes fits), refl)
times_ok (suc n) bytes cs rest fits e =
    let s1 = bind_ok (encoded bytes) (λ c. times n encoded >>= λ cs. value (c ∷ cs)) (cs, rest) e in
    let c = s1.0.0 in
    let first = encoded_ok bytes c s1.0.1 fits s1.1 in
    let s2 = bind_ok (times n encoded s1.0.1) (λ cs. value (c ∷ cs)) (cs, rest) s1.2 in
    let later = times_ok n s1.0.1 s2.0.0 s2.0.1 first.left s2.1 in
    let last = value_ok (c ∷ s2.0.0) cs s2.0.1 rest s2.2 in
    let both = took_then bytes (sized w32 (spelling c)) s1.0.1 (sized_all s2.0.0) s2.0.1 first later.0 in
    subst (λ cs. Took bytes (sized_all cs) rest × (length cs ≡ suc n)) last.0 (subst (Took bytes (sized_all (c ∷ s2.0.0))) last.1 both, ap suc later.1)

-- so many ids
ids_ok : (n : ℕ) (bytes : List ℕ) (xs : List Id) (rest : List ℕ) → IsBytes bytes → times n id bytes ≡ Ok (xs, rest) → Took bytes (concat xs) rest × (length xs ≡ n)
ids_ok zero bytes xs rest fits e =
    let last = value_ok {A = List Id} [] xs bytes rest e in
    subst (λ xs. Took bytes (concat xs) rest × (length xs ≡ 0)) last.0 (subst (Took bytes []) last.1 (took_end bytes fits), refl)
ids_ok (suc n) bytes xs rest fits e =
    let s1 = bind_ok (id bytes) (λ x. times n id >>= λ xs. value (x ∷ xs)) (xs, rest) e in
    let x = s1.0.0 in
    let first = (id_ok bytes x s1.0.1 fits s1.1).took in
    let s2 = bind_ok (times n id s1.0.1) (λ xs. value (x ∷ xs)) (xs, rest) s1.2 in
    let later = ids_ok n s1.0.1 s2.0.0 s2.0.1 first.left s2.1 in
    let last = value_ok (x ∷ s2.0.0) xs s2.0.1 rest s2.2 in
    let both = took_then bytes x s1.0.1 (concat s2.0.0) s2.0.1 first later.0 in
    subst (λ xs. Took bytes (concat xs) rest × (length xs ≡ suc n)) last.0 (subst (Took bytes (concat (x ∷ s2.0.0))) last.1 both, ap suc later.1)

abbrev mark_of : Bool → ℕ
mark_of true = 0x4E
mark_of false = 0x4C

record MomentRead (dated : Bool) (bytes : List ℕ) (m : Option ℕ) (rest : List ℕ) : Type 0 where
  took : Took bytes (moment_bytes m) rest
  marked : landing_mark m ≡ mark_of dated

moment_ok : (dated : Bool) (bytes : List ℕ) (m : Option ℕ) (rest : List ℕ) → IsBytes bytes → moment_field dated bytes ≡ Ok (m, rest) → MomentRead dated bytes m rest
moment_ok false bytes m rest fits e =
    let last = value_ok {A = Option ℕ} None m bytes rest e in
    subst (λ m. MomentRead false bytes m rest) last.0 (record { took = subst (Took bytes []) last.1 (took_end bytes fits); marked = refl })
moment_ok true bytes m rest fits e =
    let step = bind_ok (number w64 any bytes) (λ n. value (Some n)) (m, rest) e in
    let n = step.0.0 in
    let read = number_ok w64 (2 ^ 64) wide64 any bytes n step.0.1 fits step.1 in
    let last = value_ok (Some n) m step.0.1 rest step.2 in
    subst (λ m. MomentRead true bytes m rest) last.0 (record { took = subst (Took bytes (to_be_bytes w64 n)) last.1 read.took; marked = refl })

-- ---- entries

same_entry : (a b : Body) (bytes : List ℕ) → a ≡ b → IsAccepted a bytes → IsAccepted b bytes
same_entry a b bytes same accepted = subst (λ b. IsAccepted b bytes) same accepted

-- a caller, if one is told, and a mark
abbrev front : Option (List ℕ) → ℕ → List ℕ
front caller mark = caller_bytes caller ++ mark ∷ []

front_is : (caller : Option (List ℕ)) (mark : ℕ) (fields : List ℕ) → front caller mark ++ fields ≡ wrapped caller (mark ∷ fields)
front_is None mark fields = refl
front_is (Some caller) mark fields = ap (λ t. 0x41 ∷ t) (append_assoc (sized w8 caller) (mark ∷ []) fields)

-- what stands first, and the fields after it, to the end
ends : (bytes first rest fields : List ℕ) → Took bytes first rest → Took rest fields [] → bytes ≡ first ++ fields
ends bytes first rest fields here later = here.parts ∙ ap (λ t. first ++ t) (later.parts ∙ append-nil fields)

abbrev a_move : Option (List ℕ) → List ℕ → Option Id → Option Id → Body
a_move caller name from to = Book (record { name = name; from = from; to = to; caller = caller })

-- the fields of a move, each behind the one before
move_by : (caller : Option (List ℕ)) (bytes b0 b1 b2 b3 name : List ℕ) (from to : Option Id) → Took bytes (front caller 0x4D) b0 → Took b0 (sized w8 name) b1 → Took b1 (optional_id from) b2 → Took b2 (optional_id to) b3 → b3 ≡ [] → IsAccepted (a_move caller name from to) bytes
move_by caller bytes b0 b1 b2 b3 name from to marked t0 t1 t2 none =
    let to_end = subst (Took b2 (optional_id to)) none t2 in
    let last = took_then b2 (optional_id to) [] [] [] to_end (took_end [] to_end.left) in
    let later = took_then b1 (optional_id from) b2 (optional_id to ++ []) [] t1 last in
    let fields = took_then b0 (sized w8 name) b1 (optional_id from ++ (optional_id to ++ [])) [] t0 later in
    let all = sized w8 name ++ (optional_id from ++ (optional_id to ++ [])) in
    (([], refl, ends bytes (front caller 0x4D) b0 all marked fields ∙ front_is caller 0x4D all), omega arith, omega arith)

book_ok : (caller : Option (List ℕ)) (bytes b0 : List ℕ) (b : Body) → Took bytes (front caller 0x4D) b0 → book caller b0 ≡ Ok (b, []) → IsAccepted b bytes
book_ok caller bytes b0 b marked e =
    let s0 = bind_ok (bookmark_name b0) (λ name. optional >>= λ from. optional >>= λ to. value (a_move caller name from to)) (b, []) e in
    let name = s0.0.0 in
    let t0 = name_ok b0 name s0.0.1 marked.left s0.1 in
    let s1 = bind_ok (optional s0.0.1) (λ from. optional >>= λ to. value (a_move caller name from to)) (b, []) s0.2 in
    let from = s1.0.0 in
    let t1 = optional_ok s0.0.1 from s1.0.1 t0.left s1.1 in
    let s2 = bind_ok (optional s1.0.1) (λ to. value (a_move caller name from to)) (b, []) s1.2 in
    let to = s2.0.0 in
    let t2 = optional_ok s1.0.1 to s2.0.1 t1.left s2.1 in
    let last = value_ok (a_move caller name from to) b s2.0.1 [] s2.2 in
    same_entry (a_move caller name from to) b bytes last.0 (move_by caller bytes b0 s0.0.1 s1.0.1 s2.0.1 name from to marked t0 t1 t2 last.1)

abbrev a_landing : Option (List ℕ) → List ℕ → Id → Id → Option ℕ → List Changeset → Body
a_landing caller name old draft moment new = Land (record { name = name; old = old; draft = draft; new = new; moment = moment; caller = caller })

-- the fields of a landing behind its draft, and all of them
after_draft : (b3 b4 b5 : List ℕ) (moment : Option ℕ) (count : ℕ) (new : List Changeset) (b6 : List ℕ) → Took b3 (moment_bytes moment) b4 → Took b4 (to_be_bytes w16 count) b5 → Took b5 (sized_all new) b6 → b6 ≡ [] → length new ≡ count
    → Took b3 (moment_bytes moment ++ (to_be_bytes w16 (length new) ++ sized_all new)) []
after_draft b3 b4 b5 moment count new b6 t3 t4 t5 none len =
    let counted = subst (λ n. Took b4 (to_be_bytes w16 n) b5) (sym len) t4 in
    took_then b3 (moment_bytes moment) b4 (to_be_bytes w16 (length new) ++ sized_all new) [] t3
    (took_then b4 (to_be_bytes w16 (length new)) b5 (sized_all new) [] counted (subst (Took b5 (sized_all new)) none t5))

landing_by : (caller : Option (List ℕ)) (bytes b0 b1 b2 b3 name : List ℕ) (old draft : Id) (moment : Option ℕ) (new : List Changeset)
    → Took bytes (front caller (landing_mark moment)) b0 → Took b0 (sized w8 name) b1 → Took b1 old b2 → Took b2 draft b3 → Took b3 (moment_bytes moment ++ (to_be_bytes w16 (length new) ++ sized_all new)) []
    → length new < 2 ^ 16 → IsAccepted (a_landing caller name old draft moment new) bytes
landing_by caller bytes b0 b1 b2 b3 name old draft moment new marked t0 t1 t2 t3 small =
    let from_moment = moment_bytes moment ++ (to_be_bytes w16 (length new) ++ sized_all new) in
    let t2_on = took_then b2 draft b3 from_moment [] t2 t3 in
    let t1_on = took_then b1 old b2 (draft ++ from_moment) [] t1 t2_on in
    let fields = took_then b0 (sized w8 name) b1 (old ++ (draft ++ from_moment)) [] t0 t1_on in
    let all = sized w8 name ++ (old ++ (draft ++ from_moment)) in
    (([], refl, ends bytes (front caller (landing_mark moment)) b0 all marked fields ∙ front_is caller (landing_mark moment) all), small, omega arith)

landing_ok : (caller : Option (List ℕ)) (dated : Bool) (bytes b0 : List ℕ) (b : Body) → Took bytes (front caller (mark_of dated)) b0 → landing caller (moment_field dated) b0 ≡ Ok (b, []) → IsAccepted b bytes
landing_ok caller dated bytes b0 b marked e =
    let s0 = bind_ok (bookmark_name b0) (λ name. id >>= λ old. id >>= λ draft. moment_field dated >>= λ moment. number w16 any >>= λ count. times count encoded >>= λ new. value (a_landing caller name old draft moment new)) (b, []) e in
    let name = s0.0.0 in
    let t0 = name_ok b0 name s0.0.1 marked.left s0.1 in
    let s1 = bind_ok (id s0.0.1) (λ old. id >>= λ draft. moment_field dated >>= λ moment. number w16 any >>= λ count. times count encoded >>= λ new. value (a_landing caller name old draft moment new)) (b, []) s0.2 in
    let old = s1.0.0 in
    let t1 = (id_ok s0.0.1 old s1.0.1 t0.left s1.1).took in
    let s2 = bind_ok (id s1.0.1) (λ draft. moment_field dated >>= λ moment. number w16 any >>= λ count. times count encoded >>= λ new. value (a_landing caller name old draft moment new)) (b, []) s1.2 in
    let draft = s2.0.0 in
    let t2 = (id_ok s1.0.1 draft s2.0.1 t1.left s2.1).took in
    let s3 = bind_ok (moment_field dated s2.0.1) (λ moment. number w16 any >>= λ count. times count encoded >>= λ new. value (a_landing caller name old draft moment new)) (b, []) s2.2 in
    let moment = s3.0.0 in
    let t3 = moment_ok dated s2.0.1 moment s3.0.1 t2.left s3.1 in
    let s4 = bind_ok (number w16 any s3.0.1) (λ count. times count encoded >>= λ new. value (a_landing caller name old draft moment new)) (b, []) s3.2 in
    let count = s4.0.0 in
    let t4 = number_ok w16 (2 ^ 16) wide16 any s3.0.1 count s4.0.1 t3.took.left s4.1 in
    let s5 = bind_ok (times count encoded s4.0.1) (λ new. value (a_landing caller name old draft moment new)) (b, []) s4.2 in
    let new = s5.0.0 in
    let t5 = times_ok count s4.0.1 new s5.0.1 t4.took.left s5.1 in
    let last = value_ok (a_landing caller name old draft moment new) b s5.0.1 [] s5.2 in
    let rest = after_draft s2.0.1 s3.0.1 s4.0.1 moment count new s5.0.1 t3.took t4.took t5.0 last.1 t5.1 in
    let mark = subst (λ m. Took bytes (front caller m) b0) (sym t3.marked) marked in
    same_entry (a_landing caller name old draft moment new) b bytes last.0
    (landing_by caller bytes b0 s0.0.1 s1.0.1 s2.0.1 name old draft moment new mark t0 t1 t2 rest (subst (λ n. n < 2 ^ 16) (sym t5.1) t4.below))

whole_entry_ok : (bytes b0 : List ℕ) (b : Body) → Took bytes (0x57 ∷ []) b0 → whole b0 ≡ Ok (b, []) → IsAccepted b bytes
whole_entry_ok bytes b0 b marked e =
    let s0 = bind_ok (id b0) (λ x. number w64 any >>= λ n. number w16 any >>= λ count. times count id >>= λ parts. value (Whole x n parts)) (b, []) e in
    let x = s0.0.0 in
    let t0 = (id_ok b0 x s0.0.1 marked.left s0.1).took in
    let s1 = bind_ok (number w64 any s0.0.1) (λ n. number w16 any >>= λ count. times count id >>= λ parts. value (Whole x n parts)) (b, []) s0.2 in
    let n = s1.0.0 in
    let t1 = number_ok w64 (2 ^ 64) wide64 any s0.0.1 n s1.0.1 t0.left s1.1 in
    let s2 = bind_ok (number w16 any s1.0.1) (λ count. times count id >>= λ parts. value (Whole x n parts)) (b, []) s1.2 in
    let count = s2.0.0 in
    let t2 = number_ok w16 (2 ^ 16) wide16 any s1.0.1 count s2.0.1 t1.took.left s2.1 in
    let s3 = bind_ok (times count id s2.0.1) (λ parts. value (Whole x n parts)) (b, []) s2.2 in
    let parts = s3.0.0 in
    let t3 = ids_ok count s2.0.1 parts s3.0.1 t2.took.left s3.1 in
    let last = value_ok (Whole x n parts) b s3.0.1 [] s3.2 in
    let counted = subst (λ k. Took s1.0.1 (to_be_bytes w16 k) s2.0.1) (sym t3.1) t2.took in
    let t2_on = took_then s1.0.1 (to_be_bytes w16 (length parts)) s2.0.1 (concat parts) [] counted (subst (Took s2.0.1 (concat parts)) last.1 t3.0) in
    let t1_on = took_then s0.0.1 (to_be_bytes w64 n) s1.0.1 (to_be_bytes w16 (length parts) ++ concat parts) [] t1.took t2_on in
    let fields = took_then b0 x s0.0.1 (to_be_bytes w64 n ++ (to_be_bytes w16 (length parts) ++ concat parts)) [] t0 t1_on in
    same_entry (Whole x n parts) b bytes last.0 (([], refl, ends bytes (0x57 ∷ []) b0 (x ++ (to_be_bytes w64 n ++ (to_be_bytes w16 (length parts) ++ concat parts))) marked fields), omega arith, subst (λ k. k < 2 ^ 16) (sym t3.1) t2.below)

policy_ok : (caller bytes rest : List ℕ) (b : Body) → Took bytes (front (Some caller) 0x52) rest → policy caller rest ≡ Ok (b, []) → IsAccepted b bytes
policy_ok caller bytes rest b marked e =
    let last = value_ok (Policy caller rest) b [] [] e in
    same_entry (Policy caller rest) b bytes last.0 (([], refl, marked.parts ∙ front_is (Some caller) 0x52 rest), omega arith, omega arith)

content_ok : (bytes rest : List ℕ) (b : Body) → Took bytes (0x42 ∷ []) rest → content rest ≡ Ok (b, []) → IsAccepted b bytes
content_ok bytes rest b marked e =
    let last = value_ok (Content (sha256 rest) (length rest)) b [] [] e in
    same_entry (Content (sha256 rest) (length rest)) b bytes last.0 ((rest, (refl, refl), marked.parts), omega arith, omega arith)

found_ok : {A : Type 0} (rest : List ℕ) (n : ℕ) (o : Option A) (y : A × List ℕ) → option_map_or (λ x. Ok (x, rest)) o (Err n) ≡ Ok y → o ≡ Some y.0
found_ok {A = A} rest n None y e = absurd (cc)
found_ok {A = A} rest n (Some x) y e = ap (λ (p : A × List ℕ). Some p.0) (ok_is {A = A × List ℕ} (x, rest) y e)

test_ok : {A : Type 0} (b : Bool) (o : Option A) (x : A) → cond b o None ≡ Some x → o ≡ Some x
test_ok true o x e = e
test_ok false o x e = absurd (cc)

-- a field of all the bytes
field_all : {A : Type 0} (view : List ℕ → Option A) (bytes : List ℕ) (y : A × List ℕ) → field (length bytes) view bytes ≡ Ok y → view bytes ≡ Some y.0
field_all view bytes y e =
    let n = length bytes in
    ap view (sym (take_all n bytes (omega arith)))
    ∙ test_ok (nat_le n n) (view (take n bytes)) y.0 (found_ok (drop n bytes) n (cond (nat_le n n) (view (take n bytes)) None) y e)

upload_ok : (bytes rest : List ℕ) (b : Body) → IsBytes bytes → Took bytes (0x43 ∷ []) rest → upload rest ≡ Ok (b, []) → IsAccepted b bytes
upload_ok bytes rest b fits marked e =
    let view = λ (rest : List ℕ). result_ok (decoded (0x43 ∷ rest)) in
    let s1 = bind_ok (field (length rest) view rest) (λ c. value (Change c)) (b, []) e in
    let c = s1.0.0 in
    let last = value_ok (Change c) b s1.0.1 [] s1.2 in
    let spells = spelled (0x43 ∷ rest) c (subst IsBytes marked.parts fits) (field_all view rest s1.0 s1.1) in
    same_entry (Change c) b bytes last.0 (([], refl, marked.parts ∙ spells), omega arith, omega arith)

abbrev behind_caller : ℕ → Bool
behind_caller n = n == 0x4D || n == 0x4C || n == 0x4E || n == 0x52

with_caller_ok : (caller : List ℕ) (mark : ℕ) (bytes rest : List ℕ) (b : Body) (is_move is_landing is_dated : Bool)
    → (mark == 0x4D) ≡ is_move → (mark == 0x4C) ≡ is_landing → (mark == 0x4E) ≡ is_dated → (is_move || is_landing || is_dated || (mark == 0x52)) ≡ true
    → Took bytes (front (Some caller) mark) rest
    → (if is_move then book (Some caller) else if is_landing then landing (Some caller) no_moment else if is_dated then landing (Some caller) a_moment else policy caller) rest ≡ Ok (b, []) → IsAccepted b bytes
with_caller_ok caller mark bytes rest b true is_landing is_dated h0 h1 h2 rule marked e =
    book_ok (Some caller) bytes rest b (subst (λ m. Took bytes (front (Some caller) m) rest) (eqb-true mark 0x4D h0) marked) e
with_caller_ok caller mark bytes rest b false true is_dated h0 h1 h2 rule marked e =
    landing_ok (Some caller) false bytes rest b (subst (λ m. Took bytes (front (Some caller) m) rest) (eqb-true mark 0x4C h1) marked) e
with_caller_ok caller mark bytes rest b false false true h0 h1 h2 rule marked e =
    landing_ok (Some caller) true bytes rest b (subst (λ m. Took bytes (front (Some caller) m) rest) (eqb-true mark 0x4E h2) marked) e
with_caller_ok caller mark bytes rest b false false false h0 h1 h2 rule marked e =
    policy_ok caller bytes rest b (subst (λ m. Took bytes (front (Some caller) m) rest) (eqb-true mark 0x52 rule) marked) e

wrapper_ok : (bytes rest : List ℕ) (b : Body) → Took bytes (0x41 ∷ []) rest → wrapper rest ≡ Ok (b, []) → IsAccepted b bytes
wrapper_ok bytes rest b marked e =
    let s0 = bind_ok (bookmark_name rest) (λ caller. number w8 behind_caller >>= λ mark. with_caller caller mark) (b, []) e in
    let caller = s0.0.0 in
    let t0 = name_ok rest caller s0.0.1 marked.left s0.1 in
    let s1 = bind_ok (number w8 behind_caller s0.0.1) (λ mark. with_caller caller mark) (b, []) s0.2 in
    let mark = s1.0.0 in
    let t1 = byte_ok behind_caller s0.0.1 mark s1.0.1 t0.left s1.1 in
    let told = took_then bytes (0x41 ∷ []) rest (sized w8 caller ++ mark ∷ []) s1.0.1 marked (took_then rest (sized w8 caller) s0.0.1 (mark ∷ []) s1.0.1 t0 t1.took) in
    with_caller_ok caller mark bytes s1.0.1 b (mark == 0x4D) (mark == 0x4C) (mark == 0x4E) refl refl refl t1.keeps told s1.2

by_mark_ok : (mark : ℕ) (bytes rest : List ℕ) (b : Body) (is_content is_change is_move is_landing is_dated is_whole : Bool)
    → (mark == 0x42) ≡ is_content → (mark == 0x43) ≡ is_change → (mark == 0x4D) ≡ is_move → (mark == 0x4C) ≡ is_landing → (mark == 0x4E) ≡ is_dated → (mark == 0x57) ≡ is_whole
    → (is_content || is_change || is_move || is_landing || is_dated || is_whole || (mark == 0x41)) ≡ true
    → IsBytes bytes → Took bytes (mark ∷ []) rest
    → (if is_content then content else if is_change then upload else if is_move then book None else if is_landing then landing None no_moment else if is_dated then landing None a_moment else if is_whole then whole else wrapper) rest ≡ Ok (b, []) → IsAccepted b bytes
by_mark_ok mark bytes rest b true is_change is_move is_landing is_dated is_whole h0 h1 h2 h3 h4 h5 rule fits marked e =
    content_ok bytes rest b (subst (λ m. Took bytes (m ∷ []) rest) (eqb-true mark 0x42 h0) marked) e
by_mark_ok mark bytes rest b false true is_move is_landing is_dated is_whole h0 h1 h2 h3 h4 h5 rule fits marked e =
    upload_ok bytes rest b fits (subst (λ m. Took bytes (m ∷ []) rest) (eqb-true mark 0x43 h1) marked) e
by_mark_ok mark bytes rest b false false true is_landing is_dated is_whole h0 h1 h2 h3 h4 h5 rule fits marked e =
    book_ok None bytes rest b (subst (λ m. Took bytes (m ∷ []) rest) (eqb-true mark 0x4D h2) marked) e
by_mark_ok mark bytes rest b false false false true is_dated is_whole h0 h1 h2 h3 h4 h5 rule fits marked e =
    landing_ok None false bytes rest b (subst (λ m. Took bytes (m ∷ []) rest) (eqb-true mark 0x4C h3) marked) e
by_mark_ok mark bytes rest b false false false false true is_whole h0 h1 h2 h3 h4 h5 rule fits marked e =
    landing_ok None true bytes rest b (subst (λ m. Took bytes (m ∷ []) rest) (eqb-true mark 0x4E h4) marked) e
by_mark_ok mark bytes rest b false false false false false true h0 h1 h2 h3 h4 h5 rule fits marked e =
    whole_entry_ok bytes rest b (subst (λ m. Took bytes (m ∷ []) rest) (eqb-true mark 0x57 h5) marked) e
by_mark_ok mark bytes rest b false false false false false false h0 h1 h2 h3 h4 h5 rule fits marked e =
    wrapper_ok bytes rest b (subst (λ m. Took bytes (m ∷ []) rest) (eqb-true mark 0x41 rule) marked) e

abbrev is_mark : ℕ → Bool
is_mark n = n == 0x42 || n == 0x43 || n == 0x4D || n == 0x4C || n == 0x4E || n == 0x57 || n == 0x41

body_ok : (bytes : List ℕ) (b : Body) → IsBytes bytes → body bytes ≡ Ok (b, []) → IsAccepted b bytes
body_ok bytes b fits e =
    let step = bind_ok (number w8 is_mark bytes) by_mark (b, []) e in
    let mark = step.0.0 in
    let read = byte_ok is_mark bytes mark step.0.1 fits step.1 in
    by_mark_ok mark bytes step.0.1 b (mark == 0x42) (mark == 0x43) (mark == 0x4D) (mark == 0x4C) (mark == 0x4E) (mark == 0x57) refl refl refl refl refl refl read.keeps fits read.took step.2

short_ok : (long : Bool) (r : Result Body ℕ) (b : Body) → cond long (Err most_payload) r ≡ Ok b → r ≡ Ok b
short_ok true r b e = absurd (cc)
short_ok false r b e = e

-- what is read is a payload of the entry
pub payload_ok : (bytes : List ℕ) (b : Body) → IsBytes bytes → payload_body bytes ≡ Ok b → IsAccepted b bytes
payload_ok bytes b fits e =
    body_ok bytes b fits (whole_ok (length bytes) (body bytes) b (short_ok (nat_lt most_payload (length bytes)) (read body bytes) b e))
